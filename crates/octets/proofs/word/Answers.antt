-- `word`: one byte more.
use mathlib.Core.Path.{refl, ap, ◌∙◌}
use Prim.Native.Nat.{ℕ, ◌+◌, ◌*◌}
use native.Mathlib.Omega.{arith}
use lib.Dec.{lit<}
use lib.ListN.{get_or}
use Rattle.octets.specs.Octets.{number_at, number, number_from, part}
use Rattle.octets.proofs.Numbers.{number_at-next, next_lt, within_four}
use Rattle.octets.proofs.word.Goals as goal

pub loop-i-init : goal.loop-i-init
unfolding number_at number number_from part
loop-i-init c = record { value = refl; below = lit< tt }

pub overflow_mul-v : goal.overflow_mul-v
overflow_mul-v c = omega (arith, within_four c.loop-i.v 0 c.loop-i.i c.loop-i.invariant.below (lit< tt) (omega arith))

pub overflow_add-v-in-loop-i : goal.overflow_add-v-in-loop-i
overflow_add-v-in-loop-i c = omega (arith, within_four c.loop-i.v (get_or c.args.s.now (c.args.at + c.loop-i.i) 0) c.loop-i.i c.loop-i.invariant.below (omega (arith, c.type_inv.s (c.args.at + c.loop-i.i))) (omega arith))

pub loop-i-preserved : goal.loop-i-preserved
loop-i-preserved c =
    let l = c.loop-i in
    let xs = c.args.s.now in
    let at = c.args.at in
    record {
      value = ap (λ (k : ℕ). k * 256 + get_or xs (at + l.i) 0) l.invariant.value ∙ number_at-next xs at l.i (omega arith);
      below = next_lt l.v (get_or xs (at + l.i) 0) l.i l.invariant.below (omega (arith, c.type_inv.s (at + l.i)));
    }
