-- Layouts of values in bytes. Assumes nothing.
use Rattle.std.specs.Prelude.{◌≡◌, ℕ, ◌+◌, ◌<◌, Bool, true, ◌&&◌, List, [], ◌∷◌, ◌++◌, map, length, take, drop, nat_lt}
use Rattle.std.specs.List.{AllByRecursion}
use Rattle.algebra.specs.Fields.{Ops}

abbrev pub Byte : ℕ → Type 0
Byte b = b < 256

-- bytes in which others were written from place `at` on
abbrev pub written : List ℕ → ℕ → List ℕ → List ℕ
written out at bytes = take at out ++ (bytes ++ drop (at + length bytes) out)

-- a write put `more` from place `at` on, and nothing else changed
pub record Puts (was : List ℕ) (at : ℕ) (more now : List ℕ) : Type 0 where
  pub is : now ≡ written was at more

-- each byte is below q
abbrev pub below : ℕ → List ℕ → Bool
below q [] = true
below q (b ∷ bs) = nat_lt b q && below q bs

-- A layout of values in a fixed number of bytes: which values it is for, the bytes of a value, which bytes are those of a value, and of
-- which one.
pub record Format (A : Type 0) : Type 1 where
  pub size : ℕ
  pub fits : A → Type 0
  pub bytes : A → List ℕ
  pub good : List ℕ → Bool
  pub value : List ℕ → A

-- reading inverts writing, and writing inverts reading
pub record Lawful {A : Type 0} (f : Format A) : Type 0 where
  pub long : (a : A) → f.fits a → length (f.bytes a) ≡ f.size
  pub good_back : (a : A) → f.fits a → f.good (f.bytes a) ≡ true
  pub value_back : (a : A) → f.fits a → f.value (f.bytes a) ≡ a
  pub fits_forth : (bs : List ℕ) → length bs ≡ f.size → AllByRecursion Byte bs → f.good bs ≡ true → f.fits (f.value bs)
  pub bytes_forth : (bs : List ℕ) → length bs ≡ f.size → AllByRecursion Byte bs → f.good bs ≡ true → f.bytes (f.value bs) ≡ bs

-- n bytes as they are
abbrev pub raw : ℕ → Format (List ℕ)
raw n = record { size = n; fits = λ a. length a ≡ n; bytes = λ a. a; good = λ _. true; value = λ bs. bs }

-- n elements of a field, each by its number
abbrev pub elements : {F : Type 0} → Ops F → ℕ → Format (List F)
elements o n = record { size = n; fits = λ xs. length xs ≡ n; bytes = map o.number; good = below o.size; value = map o.element }

-- one value after another
abbrev pub after : {A B : Type 0} → Format A → Format B → Format (A × B)
after f g = record {
  size = f.size + g.size;
  fits = λ p. f.fits p.0 × g.fits p.1;
  bytes = λ p. f.bytes p.0 ++ g.bytes p.1;
  good = λ bs. f.good (take f.size bs) && g.good (drop f.size bs);
  value = λ bs. (f.value (take f.size bs), g.value (drop f.size bs));
}

-- the same bytes for values of another type
abbrev pub shaped : {A B : Type 0} → (A → B) → (B → A) → Format A → Format B
shaped to from f = record {
  size = f.size;
  fits = λ b. f.fits (from b);
  bytes = λ b. f.bytes (from b);
  good = f.good;
  value = λ bs. to (f.value bs);
}
