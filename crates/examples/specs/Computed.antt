-- Opens every definition at once, file by file: with `unfolding computed` a statement about closed calls is computed.
use Rattle.octets.specs.Octets.{number_from, number, big_endian, part, number_at, put, same, is_bytes, is_short}
use Rattle.svsc.specs.Messages.{digits, encode, is_digit, are_digits, digits_at, is_version, readings, decode, from_peer}
use Rattle.allowance.specs.Bucket.{level_now}
use Rattle.allowance.specs.Meter.{after, entry, history}
use Rattle.rules.specs.Searches.{first_from, any_from}
use Rattle.rules.specs.Tables.{state, in_session, has_session, is_unanswered, last_sent, keepalive_sent, expiry, id_of, cookie_of, live, live_with_id, holder_counts, bucket_of, clock, stored_term, term_in_range, lease_term, named_term, bucket_bytes, records, fresh, sized}
use Rattle.rules.specs.Leases.{lease_end, candidate, id_taken, first_free, holds_row, is_earlier, is_earliest, spare_row, cookie_taken, has_its_id, id_elsewhere, renewable, row_to_renew, renew_or_grant, decide_lease, grant, renew, row_to_extend, release_from, release}
use Rattle.rules.specs.Sessions.{clear, await, row_of_id, decide_establish, join, establish, leave, end_session}
use Rattle.rules.specs.Decisions.{decide_message}
use Rattle.rules.specs.Keepalives.{is_dead, is_due, ask, answered, stamp}
use Rattle.rules.specs.Plans.{plan_open, plan_version_answer, plan_lease, plan_extension, plan_establish, plan_end, plan_data, plan_close, plan_decided, plan_message, plan_keepalive, plan_call, plan}
use Rattle.rules.specs.Charges.{cost, price, caller_level, charge}
use Rattle.rules.specs.Checks.{wrong_time, wrong_state, wrong_lengths, not_from_peer, not_permitted, no_session, above_level, first_eight, checks, first_applying, precheck, check, wrong_term, check_start}
use Rattle.rules.specs.Step.{done, step, start}

unfoldable pub bytes : Unit {0}
unfolding number_from number big_endian part number_at put same is_bytes is_short first_from any_from
bytes = tt

unfoldable pub messages : Unit {0}
unfolding digits encode is_digit are_digits digits_at is_version readings decode from_peer
messages = tt

unfoldable pub tables : Unit {0}
unfolding state in_session has_session is_unanswered last_sent keepalive_sent expiry id_of cookie_of live live_with_id holder_counts bucket_of clock stored_term term_in_range lease_term named_term bucket_bytes records fresh sized
tables = tt

unfoldable pub leases : Unit {0}
unfolding lease_end candidate id_taken first_free holds_row is_earlier is_earliest spare_row cookie_taken has_its_id id_elsewhere renewable row_to_renew renew_or_grant decide_lease grant renew row_to_extend release_from release
leases = tt

unfoldable pub sessions : Unit {0}
unfolding clear await row_of_id decide_establish decide_message join establish leave end_session
sessions = tt

unfoldable pub keepalives : Unit {0}
unfolding is_dead is_due ask answered stamp
keepalives = tt

unfoldable pub plans : Unit {0}
unfolding plan_open plan_version_answer plan_lease plan_extension plan_establish plan_end plan_data plan_close plan_decided plan_message plan_keepalive plan_call plan
plans = tt

unfoldable pub checked : Unit {0}
unfolding wrong_time wrong_state wrong_lengths not_from_peer not_permitted no_session above_level first_eight checks first_applying precheck check wrong_term check_start
checked = tt

unfoldable pub calls : Unit {0}
unfolding level_now cost price caller_level charge done step start after entry history
calls = tt

unfoldable pub computed : Unit {0}
unfolding bytes messages tables leases sessions keepalives plans checked calls
computed = tt
