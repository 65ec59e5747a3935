-- The key schedule of AES-128 (FIPS 197, section 5.2): 44 words, of which the first four are the key. Assumes nothing.
use Rattle.std.specs.Prelude.{◌≡◌, ℕ, zero, suc, ◌+◌, ◌-◌, ◌*◌, ◌/◌, ◌%◌, ◌<◌, cond, List, [], ◌∷◌, ◌++◌, map, ◌==◌, slice_index, slice_index_or}
use Rattle.std.specs.List.{range_with_len}
use Rattle.algebra.specs.Gf256.{double}
use Rattle.cipher.specs.Word.{four, add_words, sub_word, rot_word}

-- sixteen bytes as four words
unfoldable pub words_of : List ℕ → List (List ℕ)
words_of bytes = four (λ c. four (λ r. slice_index bytes (4 * c + r)))

-- the sixteen bytes of the first four words
unfoldable pub bytes_of : List (List ℕ) → List ℕ
bytes_of words = map (λ i. slice_index (slice_index_or words (i / 4) []) (i % 4)) (range_with_len 0 16)

-- x to the power n in GF(256)
unfoldable pub power_of_x : ℕ → ℕ
power_of_x zero = 1
power_of_x (suc n) = double (power_of_x n)

-- Rcon[j], the constant of round j: the word [x^(j-1), 0, 0, 0]
unfoldable pub rcon : ℕ → List ℕ
rcon j = power_of_x (j - 1) ∷ 0 ∷ 0 ∷ 0 ∷ []

-- what is added to w[i-4] to make w[i]: w[i-1], changed where i is a multiple of four
abbrev pub temp : List (List ℕ) → ℕ → List ℕ
temp w i = cond (i % 4 == 0) (add_words (sub_word (rot_word (slice_index_or w (i - 1) []))) (rcon (i / 4))) (slice_index_or w (i - 1) [])

-- the first 4 + n words of the schedule
unfoldable pub expanded : ℕ → List ℕ → List (List ℕ)
expanded zero key = words_of key
expanded (suc n) key = expanded n key ++ (add_words (slice_index_or (expanded n key) n []) (temp (expanded n key) (4 + n)) ∷ [])

-- KeyExpansion: the whole schedule of a key
unfoldable pub schedule_of : List ℕ → List (List ℕ)
schedule_of key = expanded 40 key

-- a table with x^n in each place n, for the ten rounds
abbrev pub HoldsPowers : List ℕ → Type 0
HoldsPowers table = (n : ℕ) → n < 10 → slice_index table n ≡ power_of_x n

-- the key of round r: words 4r to 4r + 3 of a schedule
abbrev pub round_key : List (List ℕ) → ℕ → List (List ℕ)
round_key w r = four (λ c. slice_index_or w (4 * r + c) [])
