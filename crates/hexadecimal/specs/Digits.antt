-- Bytes in hexadecimal. Assumes nothing.
use Rattle.std.specs.Prelude.{ℕ, ◌+◌, ◌-◌, ◌*◌, ◌/◌, ◌%◌, cond, List, [], ◌∷◌, Some, None, Option, nat_le, nat_lt}

-- the character of a digit: 0 to 9, then a to f
abbrev pub digit_of : ℕ → ℕ
digit_of n = cond (nat_lt n 10) (48 + n) (87 + n)

-- two digits for each byte
abbrev pub encoded : List ℕ → List ℕ
encoded [] = []
encoded (b ∷ bs) = digit_of (b / 16) ∷ digit_of (b % 16) ∷ encoded bs

-- from a character of one of the ranges 0 to 9, A to F and a to f to the digit that it stands for
abbrev pub value_of : ℕ → Option ℕ
value_of c =
    cond (nat_lt c 48) None
    (cond (nat_le c 57) (Some (c - 48))
    (cond (nat_lt c 65) None
    (cond (nat_le c 70) (Some (c - 55))
    (cond (nat_lt c 97) None
    (cond (nat_le c 102) (Some (c - 87)) None)))))

-- the number of two digits
abbrev pub joined : Option ℕ → Option ℕ → Option ℕ
joined None low = None
joined (Some h) None = None
joined (Some h) (Some l) = Some (16 * h + l)

-- the byte that two characters stand for
abbrev pub byte_of : ℕ → ℕ → Option ℕ
byte_of c d = joined (value_of c) (value_of d)

-- a byte before the bytes of the rest
abbrev pub cons : Option ℕ → Option (List ℕ) → Option (List ℕ)
cons None rest = None
cons (Some b) None = None
cons (Some b) (Some bs) = Some (b ∷ bs)

-- the bytes that a text of hexadecimal digits stands for, unless it has another character or an odd length
abbrev pub decoded : List ℕ → Option (List ℕ)
decoded [] = Some []
decoded (c ∷ []) = None
decoded (c ∷ d ∷ rest) = cons (byte_of c d) (decoded rest)
