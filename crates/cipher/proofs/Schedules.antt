-- The key schedule, and its round keys. Assumes nothing.
use Rattle.std.proofs.Common.{inl, inr, true, false, cond, ◌==◌, ◌/◌, ◌%◌, ◌≡◌, ℕ, zero, suc, ◌+◌, ◌-◌, ◌*◌, ◌<◌, ◌≤◌, List, [], ◌∷◌, map, length, get_or, sym, refl, ap, ◌∙◌, arith, length-append}
use Rattle.std.specs.List.{flat_map, range_with_len}
use Rattle.std.specs.Simd.{first_chunks}
use Rattle.std.proofs.lemmas.List.FromFn.{fill_by_all}
use Rattle.std.proofs.lemmas.List.{get_or_append_left}
use Rattle.std.proofs.Math.Seq.{get_or-append_seam}
use Rattle.std.proofs.Math.Nat.{eq-or-lt_of_le}
use Rattle.std.proofs.lemmas.Bool.Decides.{nat_tests}
use Rattle.cipher.proofs.Fours.{same}
use Rattle.cipher.specs.Word.{add_words, sub_word, rot_word}
use Rattle.cipher.specs.Expansion.{words_of, bytes_of, power_of_x, rcon, temp, expanded, schedule_of, round_key}

length-expanded : (n : ℕ) (key : List ℕ) → length (expanded n key) ≡ 4 + n
unfolding expanded words_of
length-expanded zero key = refl
length-expanded (suc n) key = omega (arith, length-expanded n key, length-append (expanded n key) (add_words (get_or (expanded n key) n []) (temp (expanded n key) (4 + n)) ∷ []))

pub length_schedule : (key : List ℕ) → length (schedule_of key) ≡ 44
unfolding schedule_of
length_schedule key = length-expanded 40 key

-- a word stays as it is
stays : (m n i : ℕ) (key : List ℕ) → n ≤ m → i < 4 + n → get_or (expanded m key) i [] ≡ get_or (expanded n key) i []
unfolding expanded
stays zero n i key h lt = let none : 0 ≡ n = omega arith in ap (λ (k : ℕ). get_or (expanded k key) i []) none
stays (suc m) n i key h lt =
    elim (eq-or-lt_of_le h) [
      | inl same ↦ ap (λ (k : ℕ). get_or (expanded k key) i []) (sym same)
      | inr less ↦ get_or_append_left (expanded m key) _ [] i (omega (arith, length-expanded m key)) ∙ stays m n i key (omega arith) lt
    ]

-- the word that comes next is the sum of the one four before it and a temporary word
last_word : (key : List ℕ) (n : ℕ) → get_or (expanded (suc n) key) (4 + n) [] ≡ add_words (get_or (expanded n key) n []) (temp (expanded n key) (4 + n))
unfolding expanded
last_word key n =
    ap (λ (i : ℕ). get_or (expanded (suc n) key) i []) (sym (length-expanded n key)) ∙ get_or-append_seam (expanded n key) _ [] []

-- the same of word m of the whole schedule, where word k stands before it
next_word : (key : List ℕ) (n m k : ℕ) → n < 40 → m ≡ 4 + n → k + 1 ≡ m → let w = schedule_of key in
    get_or w m [] ≡ add_words (get_or w n []) (cond (m % 4 == 0) (add_words (sub_word (rot_word (get_or w k []))) (rcon (m / 4))) (get_or w k []))
unfolding schedule_of
next_word key n m k lt four one =
    let before : k ≡ 4 + n - 1 = omega arith in
    let here = stays 40 n n key (omega arith) (omega arith) in
    let back = stays 40 n (4 + n - 1) key (omega arith) (omega arith) in
    let all = stays 40 (suc n) (4 + n) key (omega arith) (omega arith) in
    cc (all, last_word key n, here, back, four, before)

-- the key of the next round, by its words
pub next_key : (key : List ℕ) (r : ℕ) → r < 10 → (a b c d : List ℕ) → let w = schedule_of key in
    a ≡ add_words (get_or w (4 * r + 0) []) (add_words (sub_word (rot_word (get_or w (4 * r + 3) []))) (power_of_x r ∷ 0 ∷ 0 ∷ 0 ∷ []))
    → b ≡ add_words (get_or w (4 * r + 1) []) a → c ≡ add_words (get_or w (4 * r + 2) []) b → d ≡ add_words (get_or w (4 * r + 3) []) c
    → a ∷ b ∷ c ∷ d ∷ [] ≡ round_key w (r + 1)
unfolding rcon
next_key key r lt a b c d is-a is-b is-c is-d =
    let at = λ (i : ℕ). 4 * (r + 1) + i in
    let first : (at 0 % 4 == 0) ≡ true = grind (arith, nat_tests) in
    let second : (at 1 % 4 == 0) ≡ false = grind (arith, nat_tests) in
    let third : (at 2 % 4 == 0) ≡ false = grind (arith, nat_tests) in
    let fourth : (at 3 % 4 == 0) ≡ false = grind (arith, nat_tests) in
    let round : at 0 / 4 - 1 ≡ r = omega arith in
    let w0 = is-a ∙ sym (simp (first, round) at (next_word key (4 * r + 0) (at 0) (4 * r + 3) (omega arith) (omega arith) (omega arith))) in
    let w1 = is-b ∙ ap (add_words _) w0 ∙ sym (simp second at (next_word key (4 * r + 1) (at 1) (at 0) (omega arith) (omega arith) (omega arith))) in
    let w2 = is-c ∙ ap (add_words _) w1 ∙ sym (simp third at (next_word key (4 * r + 2) (at 2) (at 1) (omega arith) (omega arith) (omega arith))) in
    let w3 = is-d ∙ ap (add_words _) w2 ∙ sym (simp fourth at (next_word key (4 * r + 3) (at 3) (at 2) (omega arith) (omega arith) (omega arith))) in
    same w0 w1 w2 w3

-- the first round key is the key
pub first_key : (key : List ℕ) → round_key (schedule_of key) 0 ≡ words_of key
unfolding schedule_of expanded words_of
first_key key =
    let at : (i : ℕ) → i < 4 → get_or (schedule_of key) i [] ≡ get_or (words_of key) i [] = λ i lt. stays 40 0 i key (omega arith) (omega arith) in
    same (at 0 (omega arith)) (at 1 (omega arith)) (at 2 (omega arith)) (at 3 (omega arith))

-- the words of round keys, in a row
pub joined : (w : List (List ℕ)) (keys : List (List (List ℕ))) → length w ≡ 44 → length keys ≡ 11 → ((r : ℕ) → r < 11 → get_or keys r [] ≡ round_key w r) → flat_map (λ x. x) keys ≡ w
joined w keys long n each =
    ap (flat_map (λ x. x)) (fill_by_all (round_key w) keys 11 [] n each) ∙ sym (fill_by_all (λ i. get_or w i []) w 44 [] long (λ k lt. refl))

-- the words cut into round keys
pub cut : (w : List (List ℕ)) → length w ≡ 44 → first_chunks 4 (length w / 4) w ≡ map (round_key w) (range_with_len 0 11)
cut w long = ap (λ n. first_chunks 4 (n / 4) w) long ∙ ap (first_chunks 4 11) (fill_by_all (λ i. get_or w i []) w 44 [] long (λ k lt. refl))

-- sixteen bytes cut into words
pub cut_bytes : (bytes : List ℕ) → length bytes ≡ 16 → first_chunks 4 (length bytes / 4) bytes ≡ words_of bytes
unfolding words_of
cut_bytes bytes long = ap (λ n. first_chunks 4 (n / 4) bytes) long ∙ ap (first_chunks 4 4) (fill_by_all (λ i. get_or bytes i 0) bytes 16 0 long (λ k lt. refl))

-- sixteen bytes come back from their words
pub bytes_words : (bytes : List ℕ) → length bytes ≡ 16 → bytes_of (words_of bytes) ≡ bytes
unfolding bytes_of words_of
bytes_words bytes h = sym (fill_by_all (λ i. get_or bytes i 0) bytes 16 0 h (λ k lt. refl))

-- the key is what the schedule begins with
pub bytes_schedule : (key : List ℕ) → length key ≡ 16 → bytes_of (schedule_of key) ≡ key
unfolding bytes_of
bytes_schedule key h = ap bytes_of (first_key key) ∙ bytes_words key h
