-- A part of a list: the octets from one place up to, not including, another. `&s[from..to]` is such a part.
use Rattle.std.specs.Prelude.{ℕ, ◌+◌, ◌-◌, min, List, length, take, drop}

abbrev pub between : {A : Type 0} → ℕ → ℕ → List A → List A
between from to s = take (to - from) (drop from s)

-- where it begins: a place past its end, or past the end of the list, stands for that end
abbrev pub start_of : {A : Type 0} → ℕ → ℕ → List A → ℕ
start_of from to s = min from (min to (length s))

-- "its promise says which part it is": a slice stands at a place in memory, and its part so many octets behind that
abbrev pub place_at : {A : Type 0} → ℕ → A × ℕ → A × ℕ
place_at from slice = (slice.0, from + slice.1)
