-- What the equations are worked out from, and all of them in a list. Assumes nothing.
use Rattle.std.proofs.Common.{◌≡◌, ℕ, zero, suc, ◌+◌, ◌-◌, ◌*◌, ◌≤◌, List, [], ◌∷◌, ◌++◌, map, length, take, drop, sym, refl, ap, ◌∙◌, ap₂, arith, length-append}
use Rattle.std.specs.List.{between}
use Rattle.std.proofs.lemmas.List.{drop_more, length-map, get_or-map}
use Rattle.algebra.specs.Fields.{Ops}
use Rattle.algebra.specs.Sums.{total, sum_from}
use Rattle.lock.specs.declared.profile.Shape.{Shape}
use Rattle.lock.specs.Instances.{Problem, item, listed, word}
use Rattle.lock.proofs.Listed.{is-listed_all}
use Rattle.regular.specs.Regular.{Equation, whole, pair, blocks, triangle, side, equation, second, worth, crossed, regular}
use Rattle.regular.specs.Counts.{length-blocks}

-- ---- a word with its level after it

module _ {X : Type 0} where
  -- the last member and those before it are known from the whole
  snoc_same : (xs ys : List X) (a b : X) → xs ++ (a ∷ []) ≡ ys ++ (b ∷ []) → (xs ≡ ys) × (a ≡ b)
  snoc_same [] [] a b e = (refl, cc)
  snoc_same [] (y ∷ ys) a b e = absurd (omega (arith, ap length e, length-append ys (b ∷ [])))
  snoc_same (x ∷ xs) [] a b e = absurd (omega (arith, ap length e, length-append xs (a ∷ [])))
  snoc_same (x ∷ xs) (y ∷ ys) a b e =
      let head : x ≡ y = cc in
      let tail : xs ++ (a ∷ []) ≡ ys ++ (b ∷ []) = cc in
      let r = snoc_same xs ys a b tail in
      (ap₂ (λ (z : X) (zs : List X). z ∷ zs) head r.0, r.1)

-- ---- the sum of a block

module _ {F : Type 0} (o : Ops F) where
  total_sum : (xs : List F) (i n : ℕ) → i + n ≤ length xs → total o (take n (drop i xs)) ≡ sum_from o (item o xs) i n
  total_sum xs i zero h = refl
  total_sum xs i (suc n) h =
      let e : i + 1 ≡ suc i = omega arith in
      ap (λ (l : List F). total o (take (suc n) l)) (drop_more xs i o.zero (omega arith))
      ∙ ap (λ (k : ℕ). o.plus (item o xs i) (total o (take n (drop k xs)))) e
      ∙ ap (o.plus (item o xs i)) (total_sum xs (suc i) n (omega arith))

  pub excess_is : (s : F) (xs : List F) (i n : ℕ) (sum back r : F) → i + n ≤ length xs → sum ≡ total o (between i (i + n) xs) → back ≡ o.negate s → r ≡ o.plus sum back
      → r ≡ second o s xs (whole i n)
  excess_is s xs i n sum back r h es eb er =
      let d : i + n - i ≡ n = omega arith in
      er ∙ ap₂ o.plus (es ∙ ap (λ (k : ℕ). total o (take k (drop i xs))) d ∙ total_sum xs i n h) eb

  -- ---- all equations

  all_listed : (f : Equation → F) (s : Shape)
      → map f (blocks (side s) 0 s.w) ≡ listed (λ j. f (equation s j)) 0 (s.w * (1 + triangle (side s)))
  all_listed f s =
      let all = blocks (side s) 0 s.w in
      let long = length-blocks (side s) 0 s.w in
      is-listed_all (λ j. f (equation s j)) (s.w * (1 + triangle (side s))) (map f all) o.zero (length-map all f ∙ long)
      (λ t h. get_or-map f all t (pair 0 0) o.zero (omega arith))

  pub values_listed : (shape : Shape) (n : ℕ) (parts xs out : List F) (level : F) → n ≡ side shape → parts ≡ xs ++ (level ∷ [])
      → out ≡ map (worth o level xs) (blocks n 0 shape.w)
      → (p : Problem F) (s : F) (u : List F) → p.shape ≡ shape → parts ≡ word o p s u ++ (s ∷ [])
      → out ≡ listed (λ j. (regular o).form p j s u) 0 ((regular o).equations shape)
  values_listed shape n parts xs out level sides split written p s u same given =
      let known = snoc_same xs (word o p s u) level s (sym split ∙ given) in
      written ∙ ap (λ (k : ℕ). map (worth o level xs) (blocks k 0 shape.w)) sides
      ∙ ap₂ (λ (a : F) (l : List F). map (worth o a l) (blocks (side shape) 0 shape.w)) known.1 known.0
      ∙ all_listed (worth o s (word o p s u)) shape
      ∙ ap (λ (h : Shape). listed (λ j. worth o s (word o p s u) (equation h j)) 0 ((regular o).equations shape)) (sym same)

  pub crosses-listed : (shape : Shape) (n : ℕ) (ones zeros xs ys out : List F) (a b : F) → n ≡ side shape → ones ≡ xs ++ (a ∷ []) → zeros ≡ ys ++ (b ∷ [])
      → out ≡ map (crossed o a xs b ys) (blocks n 0 shape.w)
      → (p : Problem F) (u v : List F) → p.shape ≡ shape → ones ≡ word o p o.one u ++ (o.one ∷ []) → zeros ≡ word o p o.zero v ++ (o.zero ∷ [])
      → out ≡ listed (λ j. (regular o).cross p j u v) 0 ((regular o).equations shape)
  crosses-listed shape n ones zeros xs ys out a b sides split_one split-zero written p u v same given-one given-zero =
      let x = word o p o.one u in
      let y = word o p o.zero v in
      let k = snoc_same xs x a o.one (sym split_one ∙ given-one) in
      let l = snoc_same ys y b o.zero (sym split-zero ∙ given-zero) in
      let all = blocks (side shape) 0 shape.w in
      written ∙ ap (λ (k : ℕ). map (crossed o a xs b ys) (blocks k 0 shape.w)) sides
      ∙ ap₂ (λ (c : F) (zs : List F). map (crossed o c zs b ys) all) k.1 k.0
      ∙ ap₂ (λ (c : F) (zs : List F). map (crossed o o.one x c zs) all) l.1 l.0
      ∙ all_listed (crossed o o.one x o.zero y) shape
      ∙ ap (λ (h : Shape). listed (λ j. crossed o o.one x o.zero y (equation h j)) 0 ((regular o).equations shape)) (sym same)
