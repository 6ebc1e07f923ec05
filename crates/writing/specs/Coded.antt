-- What an Invoke without a linked id and a Return error have in common: under a tag an id, a code and a parameter.
use Rattle.std.specs.Prelude.{ℕ, ℤ, List, ◌++◌}
use Rattle.elements.specs.Element.{written}
use Rattle.codes.specs.Ids.{octet_of}
use Rattle.components.specs.Written.{octet_place}

abbrev pub coded_octets : ℕ → ℤ → ℕ → List ℕ → List ℕ
coded_octets tag id code p = written tag (octet_place 0x02 (octet_of id) ++ octet_place 0x02 code ++ p)
