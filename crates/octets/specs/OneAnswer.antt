-- 01, "How much the promises say": "from it, equal inputs are proved to give equal outcomes". A promise leaves one answer if any
-- two answers that keep it are equal.
use Rattle.std.specs.Prelude.{◌≡◌}

abbrev pub OneAnswer : {A : Type 0} → (A → Type 0) → Type 0
OneAnswer {A} promise = (r q : A) → promise r → promise q → r ≡ q

-- A contract `result ≡ definition` leaves one, and so does `exit ≡ definition` for a lent buffer.
abbrev pub Exact : Type 1
Exact = (A : Type 0) (definition : A) → OneAnswer (λ (r : A). r ≡ definition)
