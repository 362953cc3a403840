-- `bytes`: one byte more, before those that are there.
use native.Mathlib.Nat.{sub-zero, div-one, div-div-eq-div-mul, pow-suc}
use native.Mathlib.Numerals.{add-one}
use native.Mathlib.Omega.{arith}
use mathlib.Core.Path.{sym}
use mathlib.Core.List.{append-nil}
use Rattle.octets.specs.Octets.{big_endian}
use Rattle.octets.proofs.Numbers.{big_endian-next}
use Rattle.octets.proofs.bytes.Goals as goal

pub loop-i-init : goal.loop-i-init
unfolding big_endian
loop-i-init g c = record { rest = sym (div-one _); stored = rw sub-zero (sym (append-nil _)) }

pub loop-i-preserved : goal.loop-i-preserved
loop-i-preserved g c =
    let l = c.loop-i in
    record {
      rest = rw (l.invariant.rest, add-one, pow-suc 256 l.i) (div-div-eq-div-mul _ _ _);
      stored = rw (l.invariant.stored, l.invariant.rest) (big_endian-next g.row.N l.i c.args.v (omega arith));
    }
