-- A key that was made reads back, and its secret solves its lock. Assumes nothing.
use Rattle.std.proofs.Common.{◌≡◌, ℕ, ◌+◌, ◌*◌, ◌^◌, ◌<◌, ◌≤◌, true, ◌&&◌, eqb, leb, List, [], ◌++◌, map, length, take, drop, replicate, IfOk, None, Ok, Err, Result, sym, ap, ◌∙◌, subst, ap₂, mul-le-mul, arith, pow_mono}
use Rattle.std.proofs.lemmas.List.{take_at, drop_at, append_assoc, length-map}
use Rattle.std.proofs.lemmas.Bool.{and_parts, eqb-true}
use Rattle.refusal.specs.declared.Refusal.{Refusal}
use Rattle.refusal.specs.declared.Refusal.TheVariants.{Code, Element, ArgumentLength, OutputShort, NoSolution}
use Rattle.refusal.specs.declared.Refusal.TheVariants as refusals
use Rattle.refusal.specs.Rows.{row, Tells}
use Rattle.refusal.proofs.Rows.{row_none, first_none}
use Rattle.algebra.specs.Fields.{Ops, Laws}
use Rattle.expander.specs.Streams.{seed_stream}
use Rattle.expander.proofs.Draws.{length-drawn}
use Rattle.lock.specs.declared.profile.Codes.{Codes}
use Rattle.lock.specs.declared.profile.Profile.{Profile}
use Rattle.lock.specs.Instances.{Fits, Satisfies, product}
use Rattle.lock.specs.Locks.{Forms, Makes, sound, within}
use Rattle.lock.specs.Profiles.{same_codes, rounds}
use Rattle.lock.proofs.Listed.{length-listed, get_or-listed}
use Rattle.lock.proofs.Ranges.{withins}
use Rattle.records.specs.Formats.{below}
use Rattle.records.specs.Publics.{PublicKey, Small, height, public_rows, public_value, public_bytes}
use Rattle.records.specs.Secrets.{secret_rows, secret_value, secret_bytes}
use Rattle.records.specs.Trips.{Valid}
use Rattle.records.proofs.Keys.{public_long, secret_long}
use Rattle.records.proofs.Trips.{public_trip, secret_trip}
use Rattle.keys.specs.declared.sizes.KeySizes.{KeySizes}
use Rattle.keys.specs.Making.{SmallCodes, key_sizes, admit_rows, matrix_of, problem_of, key_for, make_rows, Writes, ReadsBack}

-- a profile within its limits, with codes that fit their bytes
small_profile : {F : Type 0} (l : Forms F) (c : Codes) (p : Profile) → SmallCodes c → same_codes p.codes c ≡ true → within l p ≡ true → Small p
small_profile l c p s same w =
    let a = and_parts (eqb p.codes.field c.field) _ same in
    let b = and_parts (eqb p.codes.lock c.lock) _ a.1 in
    let q = withins l p w in
    let range = q.shape.range in
    let few : rounds p ≤ 2 ^ 5 = pow_mono q.b_high in
    let most : p.a * rounds p ≤ 7 * 2 ^ 5 = mul-le-mul q.a_high few in
    record {
      field = omega (arith, eqb-true p.codes.field c.field a.0, s.field);
      lock = omega (arith, eqb-true p.codes.lock c.lock b.0, s.lock);
      expander = omega (arith, eqb-true p.codes.expander c.expander b.1, s.expander);
      m = omega (arith, range.m_high);
      k = omega (arith, range.m_high, range.k_high);
      w = omega (arith, range.m_high, range.w_high);
      a = omega (arith, q.a_high);
      b = omega (arith, q.b_high);
      rho = omega (arith, q.rho_high);
      t = omega (arith, q.t_high, most);
    }

module _ {F : Type 0} (o : Ops F) (l : Forms F) (c : Codes) (p : Profile) (seed x : List ℕ) (room : ℕ) where
  -- what has passed all rows but the last
  pub record Passed : Type 0 where
    pub codes : same_codes p.codes c ≡ true
    pub limits : within l p ≡ true
    pub seeded : length seed ≡ 16
    pub word : length x ≡ p.shape.m

  pub passed : admit_rows o l c p seed x room ≡ None → Passed
  passed h =
      let r11 = row (leb ((key_sizes l p).public + (key_sizes l p).secret) room) OutputShort None in
      let t7 = eqb (length seed) 16 && eqb (length x) p.shape.m in
      let r7 = row t7 ArgumentLength r11 in
      let r6 = row (below o.size x) Element r7 in
      let r4 = row (within l p) refusals.Profile r6 in
      let a = row_none (same_codes p.codes c) Code r4 h in
      let b = row_none (within l p) refusals.Profile r6 a.1 in
      let d = row_none (below o.size x) Element r7 b.1 in
      let e = row_none t7 ArgumentLength r11 d.1 in
      let f = and_parts (eqb (length seed) 16) _ e.0 in
      record { codes = a.0; limits = b.0; seeded = eqb-true (length seed) 16 f.0; word = eqb-true (length x) p.shape.m f.1 }

module _ {F : Type 0} (sampled : List ℕ → F × ℕ) (block : List ℕ → List ℕ → ℕ → List ℕ) {o : Ops F} (laws : Laws o) (l : Forms F) (makes : Makes o l) where
  module _ (c : Codes) (small : SmallCodes c) (p : Profile) (seed : List ℕ) (x : List F) (w : within l p ≡ true) (same : same_codes p.codes c ≡ true)
      (ls : length seed ≡ 16) (lx : length x ≡ p.shape.m) (wanted : l.wanted p.shape x ≡ true) where
    abbrev key : PublicKey F
    key = key_for sampled block o p seed x

    abbrev u : List F
    u = l.secret p.shape x

    high : length key.y ≡ height p
    high = length-listed _ 0 (height p)

    valid : Valid o l c key
    valid = record {
      small = small_profile l c p small same w;
      codes = same;
      limits = w;
      seed = ls;
      height = let range = (withins l p w).shape.range in omega (arith, high, range.k_high);
    }

    many : length u ≡ l.unknowns p.shape
    many = makes.long p.shape x (and_parts (sound l p.shape) _ w).0 lx wanted

    fits : Fits (problem_of sampled block key)
    unfolding matrix_of
    fits = record { rows = high; cells = length-drawn sampled (seed_stream block (replicate 16 0) seed) 0 (p.shape.k * height p) }

    satisfied : Satisfies o (problem_of sampled block key) x
    satisfied r h =
        let f = product o (record { shape = p.shape; matrix = matrix_of sampled block p.shape seed; target = [] }) x in
        let z : r ≡ 0 + r = omega arith in
        ap f z ∙ sym (get_or-listed f 0 (height p) r o.zero h)

    -- the two records after each other, whatever follows
    public_there : (rest : List ℕ) → take (35 + height p) ((public_bytes o key ++ secret_bytes o u) ++ rest) ≡ public_bytes o key
    public_there rest =
        ap (take (35 + height p)) (append_assoc (public_bytes o key) (secret_bytes o u) rest)
        ∙ take_at (public_bytes o key) (secret_bytes o u ++ rest) (35 + height p) (public_long o key ls ∙ ap (λ (n : ℕ). 35 + n) high)

    secret_there : (rest : List ℕ) → take (5 + l.unknowns p.shape) (drop (35 + height p) ((public_bytes o key ++ secret_bytes o u) ++ rest)) ≡ secret_bytes o u
    secret_there rest =
        let n = 5 + l.unknowns p.shape in
        ap (λ (t : List ℕ). take n (drop (35 + height p) t)) (append_assoc (public_bytes o key) (secret_bytes o u) rest)
        ∙ ap (take n) (drop_at (public_bytes o key) (secret_bytes o u ++ rest) (35 + height p) (public_long o key ls ∙ ap (λ (n : ℕ). 35 + n) high))
        ∙ take_at (secret_bytes o u) rest n (secret_long o u ∙ ap (λ (n : ℕ). 5 + n) many)

    pub there : (out rest : List ℕ) → out ≡ (public_bytes o key ++ secret_bytes o u) ++ rest → ReadsBack sampled block o l c out (key_sizes l p)
    there out rest e =
        let front : take (35 + height p) out ≡ public_bytes o key = ap (take (35 + height p)) e ∙ public_there rest in
        let back = ap (λ (t : List ℕ). take (5 + l.unknowns p.shape) (drop (35 + height p) t)) e ∙ secret_there rest in
        let trip = public_trip o laws.numbered l in
        let secrets = secret_trip o laws.numbered in
        let value : public_value o (take (35 + height p) out) ≡ key = ap (public_value o) front ∙ trip.back c key valid in
        let unknowns = ap (secret_value o) back ∙ secrets.back u in
        let few : length u < 65535 = omega (arith, many, (withins l p w).shape.few) in
        let n : l.unknowns (public_value o (take (35 + height p) out)).profile.shape ≡ length u =
        ap (λ (k : PublicKey F). l.unknowns k.profile.shape) value ∙ sym many in
        let P : PublicKey F → List F → Type 0 = λ k v. l.Solves (problem_of sampled block k) v in
        let solves : P key u = makes.solves (problem_of sampled block key) x (and_parts (sound l p.shape) _ w).0 fits lx wanted satisfied in
        record {
          public = ap (public_rows o l c) front ∙ trip.taken c key valid;
          secret = ap₂ (secret_rows o) n back ∙ secrets.taken u few;
          solves = subst (λ (k : PublicKey F). P k (secret_value o (take (5 + l.unknowns p.shape) (drop (35 + height p) out)))) (sym value) (subst (P key) (sym unknowns) solves);
        }

  -- what was made reads back
  pub reads_back : (c : Codes) (small : SmallCodes c) (p : Profile) (seed x was now : List ℕ) (r : Result KeySizes Refusal)
      → Tells (make_rows sampled block o l c p seed x (length was)) (λ s. Writes sampled block o l p seed (map o.element x) was now s) r
      → IfOk r (λ s. ReadsBack sampled block o l c now s)
  reads_back c small p seed x was now (Ok s) (none, w) =
      let xs = map o.element x in
      let rows = first_none (admit_rows o l c p seed x (length was)) (row (l.wanted p.shape xs) NoSolution None) none in
      let ok = passed o l c p seed x (length was) rows.0 in
      let wanted = (row_none (l.wanted p.shape xs) NoSolution None rows.1).0 in
      subst (ReadsBack sampled block o l c now) (sym w.sizes)
      (there c small p seed xs ok.limits ok.codes ok.seeded (length-map x o.element ∙ ok.word) wanted now _ w.records.is)
  reads_back c small p seed x was now (Err e) t = tt
