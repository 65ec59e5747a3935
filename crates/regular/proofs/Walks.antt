-- What is left of the equations at each turn of the walk over them. Assumes nothing.
use Rattle.std.proofs.Common.{◌≡◌, ℕ, suc, ◌+◌, ◌-◌, ◌*◌, ◌<◌, ◌≤◌, List, ◌++◌, map, length, take, drop, sym, ap, ◌∙◌, ap₂, append_assoc, add-one, suc-mul, mul-le-mul_right, arith}
use borrow.Rule.Slice.PartMut.{put_mid, same_len_mid}
use Rattle.std.specs.List.{between}
use Rattle.std.proofs.lemmas.List.{map-append}
use Rattle.std.proofs.lemmas.List.Edits.{length-between}
use Rattle.std.proofs.lemmas.Slice.{take-put_mid}
use Rattle.regular.specs.Regular.{Equation, pairs_with, pairs, block, blocks, triangle}

-- where a part was written after those before it, what is left is less by that part
written : {X : Type 0} (out part left whole : List X) (at n : ℕ) → at + n ≤ length out → length part ≡ n → take at out ++ (part ++ left) ≡ whole
    → take (at + n) (put_mid at (at + n - at) out part) ++ left ≡ whole
written {X} out part left whole at n h l e =
    ap (λ (xs : List X). xs ++ left) (take-put_mid at (at + n - at) out part (at + n) (omega arith) (omega arith)) ∙ append_assoc (take at out) part left ∙ e

-- and the whole is as long as it was
kept : {X : Type 0} (out part : List X) (at n : ℕ) → at + n ≤ length out → length part ≡ n → length (put_mid at (at + n - at) out part) ≡ length out
kept out part at n h l = same_len_mid at (at + n - at) out part (l ∙ sym (length-between out at (at + n) h ∙ omega arith))

module _ {X : Type 0} (f : Equation → X) where
  -- t places of the row of i are written, and the rest is left
  pub record Row (i n t : ℕ) (out : List X) : Type 0 where
    pub room : length out ≡ n
    pub written : take t out ++ map f (pairs_with i (suc i + t) (length (drop t out))) ≡ map f (pairs_with i (suc i) n)

  -- the rows before that of i are written, up to the place `at`, and the others are left
  pub record Pairs (start size i at : ℕ) (out : List X) : Type 0 where
    pub room : at + triangle (start + size - i) ≡ length out
    pub written : take at out ++ map f (pairs i (start + size - i)) ≡ map f (pairs start size)

  -- b of the blocks are written, and the rest is left
  pub record Blocks (size count b : ℕ) (out : List X) : Type 0 where
    pub room : length out ≡ count * (1 + triangle size)
    pub written : take (b * (1 + triangle size)) out ++ map f (blocks size (b * size) (count - b)) ≡ map f (blocks size 0 count)

  pub pairs_more : (start size i at n : ℕ) (out part : List X) → i < start + size → n ≡ start + size - i - 1 → Pairs start size i at out
      → length part ≡ length (between at (at + n) out) → part ≡ map f (pairs_with i (suc i) (length (between at (at + n) out)))
      → Pairs start size (i + 1) (at + n) (put_mid at (at + n - at) out part)
  pairs_more start size i at n out part h en p el ep =
      let e : start + size - i ≡ suc n = omega arith in
      let room : at + (n + triangle n) ≡ length out = sym (ap (λ (k : ℕ). at + triangle k) e) ∙ p.room in
      let long = length-between out at (at + n) (omega arith) in
      let l : length part ≡ n = omega arith in
      let next : start + size - (i + 1) ≡ n = omega arith in
      let row : part ≡ map f (pairs_with i (suc i) n) = ep ∙ ap (λ (k : ℕ). map f (pairs_with i (suc i) k)) (sym el ∙ l) in
      let left : part ++ map f (pairs (i + 1) (start + size - (i + 1))) ≡ map f (pairs i (start + size - i)) =
      ap₂ (λ (a : List X) (k : ℕ). a ++ map f (pairs (i + 1) k)) row next
      ∙ ap (λ (k : ℕ). map f (pairs_with i (suc i) n) ++ map f (pairs k n)) (add-one i)
      ∙ sym (map-append f (pairs_with i (suc i) n) (pairs (suc i) n)) ∙ sym (ap (λ (k : ℕ). map f (pairs i k)) e) in
      record {
        room = omega (arith, ap triangle next, kept out part at n (omega arith) l);
        written = written out part _ _ at n (omega arith) l (ap (λ (xs : List X). take at out ++ xs) left ∙ p.written);
      }

  pub blocks_more : (size count b per : ℕ) (out part : List X) → b < count → per ≡ 1 + triangle size → Blocks size count b out → length part ≡ per
      → part ≡ map f (block (b * size) size) → Blocks size count (b + 1) (put_mid (b * per) (b * per + per - b * per) out part)
  blocks_more size count b per out part h eper p l ep =
      let some : count - b ≡ suc (count - (b + 1)) = omega arith in
      let next : b * size + size ≡ (b + 1) * size = sym (ap (λ (k : ℕ). k * size) (add-one b) ∙ suc-mul b size) in
      let end : b * per + per ≡ (b + 1) * per = sym (ap (λ (k : ℕ). k * per) (add-one b) ∙ suc-mul b per) in
      let most : (b + 1) * per ≤ count * per = mul-le-mul_right per (omega arith) in
      let size_of : length out ≡ count * per = p.room ∙ sym (ap (λ (k : ℕ). count * k) eper) in
      let left : part ++ map f (blocks size ((b + 1) * size) (count - (b + 1))) ≡ map f (blocks size (b * size) (count - b)) =
      ap₂ (λ (a : List X) (k : ℕ). a ++ map f (blocks size k (count - (b + 1)))) ep (sym next)
      ∙ sym (map-append f (block (b * size) size) (blocks size (b * size + size) (count - (b + 1))))
      ∙ sym (ap (λ (k : ℕ). map f (blocks size (b * size) k)) some) in
      let done = written out part _ (map f (blocks size 0 count)) (b * per) per (omega arith) l
      (ap (λ (xs : List X). take (b * per) out ++ xs) left ∙ ap (λ (k : ℕ). take (b * k) out ++ map f (blocks size (b * size) (count - b))) eper ∙ p.written) in
      record {
        room = kept out part (b * per) per (omega arith) l ∙ p.room;
        written =
            sym (ap (λ (k : ℕ). take k (put_mid (b * per) (b * per + per - b * per) out part) ++ map f (blocks size ((b + 1) * size) (count - (b + 1))))
            (end ∙ ap (λ (k : ℕ). (b + 1) * k) eper)) ∙ done;
      }
