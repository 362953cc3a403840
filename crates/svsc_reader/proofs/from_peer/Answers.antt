-- `from_peer`: a message of a type that peers send.
use mathlib.Core.Path.{sym, ◌∙◌}
use Rattle.svsc_reader.proofs.Peers.{peer-sends, not-sent}
use Rattle.svsc_reader.proofs.from_peer.Goals as goal

pub returns-then-is_message : goal.returns-then-is_message
returns-then-is_message c = peer-sends c.args.m.now c.byte.result _ (sym c.is_message.ensures ∙ c.if-is_message.true) c.byte.ensures c.sent_by_peers.ensures

pub returns-else-is_message : goal.returns-else-is_message
returns-else-is_message c = c.if-is_message.false ∙ not-sent c.args.m.now (sym c.is_message.ensures ∙ c.if-is_message.false)
