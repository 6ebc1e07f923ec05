use Rattle.std.proofs.Common.{◌≡◌, ◌<◌, ◌+◌}
use Rattle.codes.specs.Ids.{octet_of}
use Rattle.sides.specs.Side.{among}
use Rattle.sides.specs.Seen.{side_seen, shifted, before}
use Rattle.sides.proofs.find.Given as goal

abbrev pub invariant-loop-id : goal.invariant-loop-id
invariant-loop-id l = record {
  octet : l.wanted ≡ octet_of l.id;
  fits : l.rest < 18446744073709551616;
  count : l.place + before l.id (side_seen l.rest) ≡ before l.id (side_seen l.side);
  found : among l.id (side_seen l.rest) ≡ among l.id (side_seen l.side);
  behind : l.rest ≡ shifted l.place l.side;
}

abbrev pub decreases-loop-id : goal.decreases-loop-id
decreases-loop-id l = l.rest
