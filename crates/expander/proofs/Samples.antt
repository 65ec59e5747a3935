-- A sampler's steps: an element from the bytes at hand, or with the next block. Assumes nothing.
use Rattle.std.proofs.Common.{◌≡◌, ℕ, ◌+◌, ◌-◌, ◌<◌, ◌≤◌, List, ◌++◌, length, get_or, take, drop, sym, ap, ◌∙◌, subst, inl, inr, arith}
use borrow.Rule.Slice.PartMut.{put_mid, post_of}
use Rattle.std.proofs.lemmas.List.{ext_get_or, get_or-take, get_or-drop, get_or_append_left, get_or-append_right, length-append, length-take-le, length-drop}
use Rattle.std.proofs.lemmas.Bool.{cases_lt}
use Rattle.algebra.specs.Fields.{Reads}
use Rattle.expander.specs.Sampling.{Stands}
use Rattle.expander.specs.Streams.{window}
use Rattle.expander.proofs.Windows.{length-window, window_at, window_is}

-- the sixteen bytes from place `at` on
abbrev pub part : List ℕ → ℕ → List ℕ
part pair at = take 16 (drop at pair)

pub length_part : (pair : List ℕ) (at : ℕ) → length pair ≡ 32 → at ≤ 16 → length (part pair at) ≡ 16
length_part pair at full place = length-take-le 16 (drop at pair) (omega (arith, length-drop at pair))

pub part_at : (pair : List ℕ) (at j : ℕ) → j < 16 → get_or (part pair at) j 0 ≡ get_or pair (at + j) 0
part_at pair at j h = get_or-take 16 (drop at pair) j 0 h ∙ get_or-drop at pair j 0

-- a list with k of its members from place a on replaced
module _ (a k : ℕ) (xs ys : List ℕ) where
  pub put-before : (i : ℕ) → a ≤ length xs → i < a → get_or (put_mid a k xs ys) i 0 ≡ get_or xs i 0
  put-before i within h =
      let l = length-take-le a xs within in
      get_or_append_left (take a xs) (ys ++ post_of a k xs) 0 i (omega arith) ∙ get_or-take a xs i 0 h

  pub put_inside : (i : ℕ) → a ≤ length xs → a ≤ i → i < a + length ys → get_or (put_mid a k xs ys) i 0 ≡ get_or ys (i - a) 0
  put_inside i within low high =
      get_or-append_right (take a xs) (ys ++ post_of a k xs) a i 0 (length-take-le a xs within) low
      ∙ get_or_append_left ys (post_of a k xs) 0 (i - a) (omega arith)

  pub length-put : a + k ≤ length xs → length ys ≡ k → length (put_mid a k xs ys) ≡ length xs
  length-put within long =
      let l : length (take a xs) ≡ a = length-take-le a xs (omega arith) in
      let d : length (drop a xs) ≡ length xs - a = length-drop a xs in
      let e : length (post_of a k xs) ≡ length xs - a - k = length-drop k (drop a xs) ∙ ap (λ (n : ℕ). n - k) d in
      omega (arith, length-append (take a xs) (ys ++ post_of a k xs), length-append ys (post_of a k xs))

-- bytes held before place 16 and the block that follows them are the stream from k on
pub part-window : (pair block : List ℕ) (at : ℕ) (f : ℕ → ℕ) (k : ℕ) → length pair ≡ 32 → at ≤ 16
    → ((j : ℕ) → j < 16 - at → get_or pair (at + j) 0 ≡ f (k + j)) → block ≡ window f (k + (16 - at)) 16
    → part (put_mid 16 16 pair block) at ≡ window f k 16
part-window pair block at f k full place held next =
    let long : length block ≡ 16 = ap length next ∙ length-window f (k + (16 - at)) 16 in
    window_is f k 16 (part (put_mid 16 16 pair block) at) (length_part (put_mid 16 16 pair block) at (length-put 16 16 pair block (omega arith) long ∙ full) place)
    (λ j h.
    part_at (put_mid 16 16 pair block) at j h
    ∙ elim (cases_lt (at + j) 16) [
      | inl lt ↦ put-before 16 16 pair block (at + j) (omega arith) lt ∙ held j (omega arith)
      | inr ge ↦
          let e : k + (16 - at) + (at + j - 16) ≡ k + j = omega arith in
          put_inside 16 16 pair block (at + j) (omega arith) ge (omega arith) ∙ ap (λ (l : List ℕ). get_or l (at + j - 16) 0) next
          ∙ window_at f (k + (16 - at)) 16 (at + j - 16) (omega arith) ∙ ap f e
    ])

module _ {F : Type 0} {sampled : List ℕ → F × ℕ} (reads : Reads sampled) where
  -- two sixteens that agree as far as a sample of the first reads are sampled to the same
  pub same_sample : (n : ℕ) (xs ys : List ℕ) → length xs ≡ 16 → length ys ≡ 16 → (sampled xs).1 ≤ n
      → ((j : ℕ) → j < n → get_or xs j 0 ≡ get_or ys j 0) → sampled xs ≡ sampled ys
  same_sample n xs ys lx ly enough at =
      let m = (sampled xs).1 in
      let most : (sampled xs).1 ≤ 16 = reads.most xs lx in
      let tx : length (take (sampled xs).1 xs) ≡ (sampled xs).1 = length-take-le m xs (omega arith) in
      let ty : length (take (sampled xs).1 ys) ≡ (sampled xs).1 = length-take-le m ys (omega arith) in
      reads.only xs ys lx ly
      (ext_get_or 0 (take m xs) (take m ys) (tx ∙ sym ty)
      (λ j h. get_or-take m xs j 0 (omega arith) ∙ at j (omega arith) ∙ sym (get_or-take m ys j 0 (omega arith))))

  -- a sample x that the bytes before place 16 suffice for is that of the stream
  pub sample-held : (pair : List ℕ) (at : ℕ) (f : ℕ → ℕ) (k : ℕ) (x : F × ℕ) → length pair ≡ 32 → at ≤ 16
      → ((j : ℕ) → j < 16 - at → get_or pair (at + j) 0 ≡ f (k + j)) → x ≡ sampled (part pair at) → at + x.1 ≤ 16 → x ≡ sampled (window f k 16)
  sample-held pair at f k x full place held e enough =
      let used : x.1 ≡ (sampled (part pair at)).1 = ap (λ (p : F × ℕ). p.1) e in
      e ∙ same_sample (16 - at) (part pair at) (window f k 16) (length_part pair at full place) (length-window f k 16) (omega arith)
      (λ j h. part_at pair at j (omega arith) ∙ held j h ∙ sym (window_at f k 16 j (omega arith)))

  -- a sample x that wants more than they are still does with the block after them, where it is y
  pub sample_further : (pair block : List ℕ) (at : ℕ) (x y : F × ℕ) → length pair ≡ 32 → length block ≡ 16 → at ≤ 16
      → x ≡ sampled (part pair at) → y ≡ sampled (part (put_mid 16 16 pair block) at) → 16 < at + x.1 → 16 < at + y.1
  sample_further pair block at x y full long place ex ey more =
      let both = put_mid 16 16 pair block in
      let ux : x.1 ≡ (sampled (part pair at)).1 = ap (λ (p : F × ℕ). p.1) ex in
      let uy : y.1 ≡ (sampled (part (put_mid 16 16 pair block) at)).1 = ap (λ (p : F × ℕ). p.1) ey in
      elim (cases_lt 16 (at + y.1)) [
        | inl lt ↦ lt
        | inr ge ↦
            let same = same_sample (16 - at) (part both at) (part pair at)
            (length_part both at (length-put 16 16 pair block (omega arith) long ∙ full) place) (length_part pair at full place) (omega arith)
            (λ j h. part_at both at j (omega arith) ∙ put-before 16 16 pair block (at + j) (omega arith) (omega arith) ∙ sym (part_at pair at j (omega arith))) in
            let used : (sampled (part (put_mid 16 16 pair block) at)).1 ≡ (sampled (part pair at)).1 = ap (λ (p : F × ℕ). p.1) same in
            absurd (omega arith)
      ]

  -- and it wants sixteen bytes at most
  pub sample_most : (pair : List ℕ) (at : ℕ) (y : F × ℕ) → length pair ≡ 32 → at ≤ 16 → y ≡ sampled (part pair at) → y.1 ≤ 16
  sample_most pair at y full place e =
      let most = reads.most (part pair at) (length_part pair at full place) in
      let used : y.1 ≡ (sampled (part pair at)).1 = ap (λ (p : F × ℕ). p.1) e in
      omega arith

module _ {S : Type 0} (gives : S → (ℕ → ℕ) → ℕ → Type 0) (pair : List ℕ) (at : ℕ) (f : ℕ → ℕ) (k n m : ℕ) where
  -- the place goes m bytes on among those that are held; m is n as the code has it
  pub goes_on : (source : S) → Stands gives source pair at f k → at + m ≤ 16 → m ≡ n → Stands gives source pair (at + m) f (k + n)
  goes_on source is within same = record {
    held = λ j h.
        let i : at + m + j ≡ at + (m + j) = omega arith in
        let e : k + (m + j) ≡ k + n + j = omega arith in
        ap (λ (l : ℕ). get_or pair l 0) i ∙ is.held (m + j) (omega arith) ∙ ap f e;
    rest =
        let e : k + (16 - at) ≡ k + n + (16 - (at + m)) = omega arith in
        subst (gives source f) e is.rest;
  }

  -- the place goes m bytes on into the next block, which is then the first half of the pair
  pub goes_over : (source : S) (block : List ℕ) → gives source f (k + (16 - at) + 16) → block ≡ window f (k + (16 - at)) 16
      → ((j : ℕ) → j < 16 → get_or pair j 0 ≡ get_or block j 0) → at ≤ 16 → 16 ≤ at + m → at + m ≤ 32 → m ≡ n
      → Stands gives source pair (at + m - 16) f (k + n)
  goes_over source block rest next first place over within same = record {
    held = λ j h.
        let e : k + (16 - at) + (at + m - 16 + j) ≡ k + n + j = omega arith in
        first (at + m - 16 + j) (omega arith) ∙ ap (λ (l : List ℕ). get_or l (at + m - 16 + j) 0) next
        ∙ window_at f (k + (16 - at)) 16 (at + m - 16 + j) (omega arith) ∙ ap f e;
    rest =
        let e : k + (16 - at) + 16 ≡ k + n + (16 - (at + m - 16)) = omega arith in
        subst (gives source f) e rest;
  }

-- with nothing held, the source is where the sampler is
pub stands_first : {S : Type 0} (gives : S → (ℕ → ℕ) → ℕ → Type 0) (source : S) (pair : List ℕ) (f : ℕ → ℕ) (k : ℕ)
    → gives source f k → Stands gives source pair 16 f k
stands_first gives source pair f k is = record {
  held = λ j h. absurd (omega arith);
  rest = let e : k ≡ k + (16 - 16) = omega arith in subst (gives source f) e is;
}
