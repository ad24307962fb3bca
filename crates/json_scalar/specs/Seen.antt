-- For private clauses: the numbers' structs as clauses see them.
use Rattle.std.specs.Prelude.{ℕ, ◌*◌, ◌^◌}
use Rattle.json_scalar.specs.declared.number.Parts.{Parts}
use Rattle.json_scalar.specs.declared.number.Significand.{Significand}
use Rattle.json_scalar.specs.Parts.{Cut}

abbrev pub cut_of : Parts → Cut
cut_of p = record { is_negative = p.is_negative; whole = p.whole.now; fraction = p.fraction.now; lowers = p.lowers; exponent = p.exponent.now }

-- the number that the core and its zeros are
abbrev pub number_of : Significand → ℕ
number_of s = s.core * 10 ^ s.zeros
