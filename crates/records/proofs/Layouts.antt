-- The layouts are lawful: reading inverts writing, and writing inverts reading. Assumes nothing.
use Rattle.std.proofs.Common.{◌≡◌, ℕ, ◌+◌, true, ltb, List, [], ◌∷◌, ◌++◌, map, length, take, drop, sym, refl, ap, ◌∙◌, subst, ap₂, arith, length-append, length-drop}
use lib.ListN.{length-map}
use Rattle.std.proofs.lemmas.List.{take_at, drop_at, take-append-drop, length-take-le}
use Rattle.std.proofs.ByRecursion.{All-take, All-drop}
use Rattle.std.proofs.lemmas.Bool.{and_parts, and_from, lt-ltb, ltb-true}
use Rattle.algebra.specs.Fields.{Ops, Numbered}
use Rattle.records.specs.Formats.{Format, Lawful, Byte, raw, below, elements, after, shaped}

pub raw_lawful : (n : ℕ) → Lawful (raw n)
raw_lawful n = record {
  long = λ a h. h;
  good_back = λ a h. refl;
  value_back = λ a h. refl;
  fits_forth = λ bs l b g. l;
  bytes_forth = λ bs l b g. refl;
}

module _ {F : Type 0} (o : Ops F) (laws : Numbered o) where
  numbers-below : (xs : List F) → below o.size (map o.number xs) ≡ true
  numbers-below [] = refl
  numbers-below (x ∷ xs) = and_from _ _ (lt-ltb _ _ (laws.number-below x)) (numbers-below xs)

  elements_numbers : (xs : List F) → map o.element (map o.number xs) ≡ xs
  elements_numbers [] = refl
  elements_numbers (x ∷ xs) = ap₂ (λ (y : F) (ys : List F). y ∷ ys) (laws.element-number x) (elements_numbers xs)

  numbers-elements : (bs : List ℕ) → below o.size bs ≡ true → map o.number (map o.element bs) ≡ bs
  numbers-elements [] h = refl
  numbers-elements (b ∷ bs) h =
      let p = and_parts (ltb b o.size) (below o.size bs) h in
      ap₂ (λ (y : ℕ) (ys : List ℕ). y ∷ ys) (laws.number_element b (ltb-true b o.size p.0)) (numbers-elements bs p.1)

  pub elements_lawful : (n : ℕ) → Lawful (elements o n)
  elements_lawful n = record {
    long = λ a h. length-map a o.number ∙ h;
    good_back = λ a h. numbers-below a;
    value_back = λ a h. elements_numbers a;
    fits_forth = λ bs l b g. length-map bs o.element ∙ l;
    bytes_forth = λ bs l b g. numbers-elements bs g;
  }

-- the two parts of a list of known length
module _ (m n : ℕ) (bs : List ℕ) (l : length bs ≡ m + n) where
  front_long : length (take m bs) ≡ m
  front_long = length-take-le m bs (omega arith)

  back_long : length (drop m bs) ≡ n
  back_long = length-drop m bs ∙ omega arith

module _ {A B : Type 0} (f : Format A) (g : Format B) (p : Lawful f) (q : Lawful g) where
  pub after_lawful : Lawful (after f g)
  after_lawful = record {
    long = λ a h. length-append (f.bytes a.0) (g.bytes a.1) ∙ ap₂ (λ (x y : ℕ). x + y) (p.long a.0 h.0) (q.long a.1 h.1);
    good_back = λ a h.
        and_from _ _ (ap f.good (take_at (f.bytes a.0) (g.bytes a.1) f.size (p.long a.0 h.0)) ∙ p.good_back a.0 h.0)
        (ap g.good (drop_at (f.bytes a.0) (g.bytes a.1) f.size (p.long a.0 h.0)) ∙ q.good_back a.1 h.1);
    value_back = λ a h.
        ap₂ (λ (x : A) (y : B). (x, y)) (ap f.value (take_at (f.bytes a.0) (g.bytes a.1) f.size (p.long a.0 h.0)) ∙ p.value_back a.0 h.0)
        (ap g.value (drop_at (f.bytes a.0) (g.bytes a.1) f.size (p.long a.0 h.0)) ∙ q.value_back a.1 h.1);
    fits_forth = λ bs l b t. let ts = and_parts _ (g.good (drop f.size bs)) t in (
      p.fits_forth (take f.size bs) (front_long f.size g.size bs l) (All-take Byte f.size bs b) ts.0,
      q.fits_forth (drop f.size bs) (back_long f.size g.size bs l) (All-drop Byte f.size bs b) ts.1,
    );
    bytes_forth = λ bs l b t. let ts = and_parts _ (g.good (drop f.size bs)) t in
        ap₂ (λ (xs ys : List ℕ). xs ++ ys) (p.bytes_forth (take f.size bs) (front_long f.size g.size bs l) (All-take Byte f.size bs b) ts.0)
        (q.bytes_forth (drop f.size bs) (back_long f.size g.size bs l) (All-drop Byte f.size bs b) ts.1)
        ∙ take-append-drop f.size bs;
  }

module _ {A B : Type 0} (to : A → B) (from : B → A) (f : Format A) (p : Lawful f) where
  pub shaped_lawful : ((b : B) → to (from b) ≡ b) → ((a : A) → from (to a) ≡ a) → Lawful (shaped to from f)
  shaped_lawful tf ft = record {
    long = λ b h. p.long (from b) h;
    good_back = λ b h. p.good_back (from b) h;
    value_back = λ b h. ap to (p.value_back (from b) h) ∙ tf b;
    fits_forth = λ bs l b t. subst f.fits (sym (ft (f.value bs))) (p.fits_forth bs l b t);
    bytes_forth = λ bs l b t. ap f.bytes (ft (f.value bs)) ∙ p.bytes_forth bs l b t;
  }
