-- Arrays made by calls, one for each element. Assumes nothing.
use Rattle.std.proofs.Common.{◌≡◌, ℕ, Bor, length, zero, suc, ◌+◌, ◌<◌, ◌≤◌, List, map, get_or, ap, ◌∙◌, subst, sym, refl, inl, inr, arith}
use Rattle.std.specs.Array.{IsMapOf, IsFromFnResultFrom, IsFromFnResult}
use Rattle.std.specs.Fn.{Called}
use Rattle.std.specs.List.{range_with_len}
use Rattle.std.proofs.lemmas.List.{get_or-map, length-map}
use Rattle.std.proofs.lemmas.List.FromFn.{fill_by_all}
use Rattle.std.proofs.Math.Nat.{eq-or-lt_of_le}
use denote.Param.Members.{Mut}

-- what `map` gives, where each call gives h of its element
pub mapped : {F A B : Type 0} (g : Mut F (A × Unit {0}) B) (h : A → B) (d : A) (e : B) {f : F} {xs : List A} {ys : List B} {n : ℕ}
    → ((p q : F) (x : A) (y : B) → Called g p (x, tt) y q → y ≡ h x) → IsMapOf g f xs ys n → ys ≡ map (λ i. h (get_or xs i d)) (range_with_len 0 n)
mapped g h d e {xs} {ys} {n} calls all =
    fill_by_all (λ i. h (get_or xs i d)) ys n e all.long (λ k lt. let r = all.at k d e lt in calls r.0 r.1 _ _ r.2)

-- the same over references to the elements of vs, one of which is r
pub mapped_refs : {F A B : Type 0} (g : Mut F (Bor A × Unit {0}) B) (h : A → B) (d : A) (e : B) (r : Bor A) {f : F} {xs : List (Bor A)} {vs : List A} {ys : List B} {n : ℕ}
    → ((p q : F) (x : Bor A) (y : B) → Called g p (x, tt) y q → y ≡ h x.now) → map (λ x. x.now) xs ≡ vs → length vs ≡ n → IsMapOf g f xs ys n
    → ys ≡ map (λ i. h (get_or vs i d)) (range_with_len 0 n)
mapped_refs {A = A} g h d e r {f} {xs} {vs} {ys} {n} calls items long all =
    let now : Bor A → A = λ x. x.now in
    fill_by_all (λ i. h (get_or vs i d)) ys n e all.long
    (λ k lt.
    let call = all.at k r e lt in
    let within : k < length xs = omega (arith, length-map xs now, ap length items) in
    calls call.0 call.1 _ _ call.2 ∙ ap h (sym (get_or-map now xs k r d within) ∙ ap (λ l. get_or l k d) items))

-- what `from_fn` gives, where each call gives h of its index and changes nothing
module _ {F B : Type 0} (g : Mut F (ℕ × Unit {0}) B) (h : ℕ → B) (e : B) (f : F) (ys : List B) (n : ℕ) (calls : (i : ℕ) (y : B) (q : F) → i < n → Called g f (i, tt) y q → (y ≡ h i) × (q ≡ f)) where
  made_from : (m i k : ℕ) (p : F) → p ≡ f → i + m ≤ n → i ≤ k → k < i + m → IsFromFnResultFrom g p ys i m → get_or ys k e ≡ h k
  made_from zero i k p s fit low high all = absurd (omega arith)
  made_from (suc m) i k p s fit low high (q, y, is, call, rest) =
      let one = calls i y q (omega arith) (subst (λ (z : F). Called g z (i, tt) y q) s call) in
      elim (eq-or-lt_of_le low) [
        | inl now ↦ ap (λ (j : ℕ). get_or ys j e) (sym now) ∙ is.1 e ∙ one.0 ∙ ap h now
        | inr later ↦ made_from m (i + 1) k q one.1 (omega arith) (omega arith) (omega arith) rest
      ]

  pub made : IsFromFnResult g f ys n → ys ≡ map h (range_with_len 0 n)
  made all = fill_by_all h ys n e all.long (λ k lt. made_from n 0 k f refl (omega arith) (omega arith) (omega arith) all.each)
