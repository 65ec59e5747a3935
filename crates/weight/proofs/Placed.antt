-- Lists that are worked out place by place. Assumes nothing.
use Rattle.std.proofs.Common.{◌≡◌, ℕ, zero, suc, ◌+◌, ◌<◌, ◌≤◌, List, [], ◌∷◌, ◌++◌, length, get_or, take, drop, sym, refl, ap, ◌∙◌, ap₂, arith}
use Rattle.std.proofs.lemmas.List.{append-nil, drop_more, take_all, drop_all}
use Rattle.lock.specs.Instances.{listed}

-- what is left from place i on, by the element that was read there
pub left_is : {X : Type 0} (i : ℕ) (xs : List X) (x : X) → i < length xs → x ≡ get_or xs i x → drop i xs ≡ x ∷ drop (i + 1) xs
left_is {X} i xs x h e = drop_more xs i x h ∙ ap (λ (y : X). y ∷ drop (i + 1) xs) (sym e)

-- a list that was worked on in place, as far as there is anything left
pub place_all : {X : Type 0} (after : List X → List X) (all xs : List X) (i : ℕ) → after [] ≡ [] → length xs ≤ i → take i xs ++ after (drop i xs) ≡ all → xs ≡ all
place_all {X} after all xs i none h inv =
    sym (ap₂ (λ (l r : List X). l ++ after r) (take_all i xs h) (drop_all i xs h) ∙ ap (λ (r : List X). xs ++ r) none ∙ append-nil xs) ∙ inv

pub listed_same : {X : Type 0} (f g : ℕ → X) (i n : ℕ) → ((j : ℕ) → i ≤ j → j < i + n → f j ≡ g j) → listed f i n ≡ listed g i n
listed_same f g i zero e = refl
listed_same {X} f g i (suc n) e =
    ap₂ (λ (x : X) (l : List X). x ∷ l) (e i (omega arith) (omega arith)) (listed_same f g (suc i) n (λ j lo hi. e j (omega arith) (omega arith)))
