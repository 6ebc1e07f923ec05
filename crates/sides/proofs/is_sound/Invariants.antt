use Rattle.std.proofs.Common.{◌≡◌, ◌<◌}
use Rattle.sides.specs.Side.{sound_side}
use Rattle.sides.specs.Seen.{octets_seen, listed_for}
use Rattle.sides.proofs.is_sound.Given as goal

abbrev pub invariant-loop-rest : goal.invariant-loop-rest
invariant-loop-rest l = record {
  fits : l.rest < 18446744073709551616;
  sound : sound_side (listed_for l.ours) (octets_seen l.rest) ≡ sound_side (listed_for l.ours) (octets_seen l.side);
}

abbrev pub decreases-loop-rest : goal.decreases-loop-rest
decreases-loop-rest l = l.rest
