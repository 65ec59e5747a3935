-- The records of keys are read as they were written, and written as they were read. Assumes nothing.
use Rattle.std.proofs.Common.{◌≡◌, ℕ, zero, suc, ◌+◌, ◌*◌, ◌/◌, ◌%◌, ◌<◌, ◌≤◌, true, ◌&&◌, eqb, leb, List, [], ◌∷◌, ◌++◌, map, length, get_or, drop, None, sym, refl, ap, ◌∙◌, subst, ap₂, arith, drop-cons}
use Rattle.std.specs.List.{AllByRecursion}
use Rattle.std.proofs.lemmas.List.{drop_all, length-drop, length-map}
use Rattle.std.proofs.lemmas.Bool.{and_parts, and_from, leb-true, eqb-true, le-leb, eq-eqb}
use Rattle.std.proofs.ByRecursion.{All-get_or, All-drop}
use Rattle.refusal.specs.declared.Refusal.TheVariants.{Code, BodyLength}
use Rattle.refusal.specs.declared.Refusal.TheVariants as refusals
use Rattle.refusal.specs.Rows.{row}
use Rattle.refusal.proofs.Rows.{row_none, first_none, goes_on, first_goes}
use Rattle.algebra.specs.Fields.{Ops, Numbered}
use Rattle.lock.specs.declared.profile.Codes.{Codes}
use Rattle.lock.specs.declared.profile.Profile.{Profile}
use Rattle.lock.specs.Locks.{Forms, within}
use Rattle.lock.specs.Profiles.{same_codes}
use Rattle.lock.proofs.Ranges.{withins}
use Rattle.records.specs.Formats.{Lawful, Byte}
use Rattle.records.specs.Openings.{two, four, two_at, length_field, record_of, opening_rows}
use Rattle.records.specs.Publics.{profile_bytes, profile_value, profile_format, Small, PublicKey, height, profile_rows, profile_of, body_format, public_value, public_bytes, public_rows}
use Rattle.records.specs.Secrets.{secret_value}
use Rattle.records.specs.Trips.{Valid, PublicTrip, SecretTrip}
use Rattle.records.proofs.Layouts.{raw_lawful, elements_lawful, after_lawful, shaped_lawful}

-- n bytes of a list, from place i on, one by one
abbrev spelled : ℕ → ℕ → List ℕ → List ℕ
spelled i zero bs = []
spelled i (suc n) bs = get_or bs i 0 ∷ spelled (suc i) n bs

spelled_rest : (n i : ℕ) (bs : List ℕ) → length bs ≡ i + n → drop i bs ≡ spelled i n bs
spelled_rest zero i bs l = drop_all i bs (omega arith)
spelled_rest (suc n) i bs l =
    drop-cons bs i 0 (omega arith) ∙ ap (λ (t : List ℕ). get_or bs i 0 ∷ t) (spelled_rest n (suc i) bs (omega arith))

two_high : (a b : ℕ) → a < 256 → b < 256 → (a * 256 + b) / 256 % 256 ≡ a
two_high a b h k = omega arith

two_low : (a b : ℕ) → a < 256 → b < 256 → (a * 256 + b) % 256 ≡ b
two_low a b h k = omega arith

two_back : (n : ℕ) → n < 65536 → (n / 256 % 256) * 256 + n % 256 ≡ n
two_back n h = omega arith

four_back : (n : ℕ) → n < 65536 → n / 16777216 % 256 * 16777216 + n / 65536 % 256 * 65536 + n / 256 % 256 * 256 + n % 256 ≡ n
four_back n h = omega arith

-- the profile p with other numbers of two bytes
with_numbers : Profile → ℕ → ℕ → ℕ → ℕ → Profile
with_numbers p m k w t = record { codes = p.codes; shape = record { m = m; k = k; w = w }; a = p.a; b = p.b; rho = p.rho; t = t }

again : ℕ → ℕ
again n = (n / 256 % 256) * 256 + n % 256

profile_back : (p : Profile) → Small p → profile_value (profile_bytes p) ≡ p
unfolding with_numbers again
profile_back p s =
    ap₂ (λ (m k : ℕ). with_numbers p m k (again p.shape.w) (again p.t)) (two_back p.shape.m s.m) (two_back p.shape.k s.k)
    ∙ ap₂ (λ (w t : ℕ). with_numbers p p.shape.m p.shape.k w t) (two_back p.shape.w s.w) (two_back p.t s.t)

module _ (bs : List ℕ) (l : length bs ≡ 14) (b : AllByRecursion Byte bs) where
  at : (i : ℕ) → i < 14 → get_or bs i 0 < 256
  at i h = All-get_or Byte bs i 0 (omega arith) b

  profile_small : Small (profile_value bs)
  profile_small =
      let f0 = at 0 (omega arith) in let f1 = at 1 (omega arith) in let f2 = at 2 (omega arith) in
      let f3 = at 3 (omega arith) in let f4 = at 4 (omega arith) in let f5 = at 5 (omega arith) in
      let f6 = at 6 (omega arith) in let f7 = at 7 (omega arith) in let f8 = at 8 (omega arith) in
      let f9 = at 9 (omega arith) in let f10 = at 10 (omega arith) in let f11 = at 11 (omega arith) in
      let f12 = at 12 (omega arith) in let f13 = at 13 (omega arith) in
      record { field = f0; lock = f1; expander = f2; m = omega arith; k = omega arith; w = omega arith; a = f9; b = f10; rho = f11; t = omega arith }

  pair : (i : ℕ) → 1 + i < 14 → two (two_at bs i) ≡ get_or bs i 0 ∷ get_or bs (1 + i) 0 ∷ []
  pair i h =
      let x = at i (omega arith) in let y = at (1 + i) h in
      ap₂ (λ (c d : ℕ). c ∷ d ∷ []) (two_high (get_or bs i 0) (get_or bs (1 + i) 0) x y) (two_low (get_or bs i 0) (get_or bs (1 + i) 0) x y)

  profile_forth : profile_bytes (profile_value bs) ≡ bs
  profile_forth =
      let e = spelled_rest 14 0 bs l in
      let m3 = pair 3 (omega arith) in let m5 = pair 5 (omega arith) in let m7 = pair 7 (omega arith) in let m12 = pair 12 (omega arith) in
      cc

profile_lawful : Lawful profile_format
profile_lawful = record {
  long = λ p h. refl;
  good_back = λ p h. refl;
  value_back = profile_back;
  fits_forth = λ bs l b t. profile_small bs l b;
  bytes_forth = λ bs l b t. profile_forth bs l b;
}

-- a record is its length, its version and the rest
head_is : (bs : List ℕ) → 5 ≤ length bs → AllByRecursion Byte bs → get_or bs 4 0 ≡ 1 → four (length_field bs) ++ (1 ∷ drop 5 bs) ≡ bs
head_is [] h b v = absurd (omega arith)
head_is (b0 ∷ []) h b v = absurd (omega arith)
head_is (b0 ∷ b1 ∷ []) h b v = absurd (omega arith)
head_is (b0 ∷ b1 ∷ b2 ∷ []) h b v = absurd (omega arith)
head_is (b0 ∷ b1 ∷ b2 ∷ b3 ∷ []) h b v = absurd (omega arith)
head_is (b0 ∷ b1 ∷ b2 ∷ b3 ∷ b4 ∷ bs) h b v =
    let n = b0 * 16777216 + b1 * 65536 + b2 * 256 + b3 in
    let h0 = b.0 in let h1 = b.1.0 in let h2 = b.1.1.0 in let h3 = b.1.1.1.0 in
    let e0 : n / 16777216 % 256 ≡ b0 = omega arith in
    let e1 : n / 65536 % 256 ≡ b1 = omega arith in
    let e2 : n / 256 % 256 ≡ b2 = omega arith in
    let e3 : n % 256 ≡ b3 = omega arith in
    let e4 : b4 ≡ 1 = v in
    cc

-- what it takes to pass the rows of every record
record Opened (least : ℕ) (bs : List ℕ) : Type 0 where
  long : 5 ≤ length bs
  field : length_field bs + 4 ≡ length bs
  version : get_or bs 4 0 ≡ 1

opened : (least : ℕ) (bs : List ℕ) → opening_rows least bs ≡ None → Opened least bs
opened least bs h =
    let r1 = row_none _ _ _ h in
    let r2 = row_none _ _ _ r1.1 in
    let t1 = and_parts (leb 5 (length bs)) (eqb (length_field bs + 4) (length bs) && leb least (length_field bs)) r1.0 in
    let t2 = and_parts (eqb (length_field bs + 4) (length bs)) (leb least (length_field bs)) t1.1 in
    record {
      long = leb-true 5 (length bs) t1.0;
      field = eqb-true (length_field bs + 4) (length bs) t2.0;
      version = eqb-true (get_or bs 4 0) 1 r2.0;
    }

-- an opened record is that of its rest
record_forth : (least : ℕ) (bs rest : List ℕ) → AllByRecursion Byte bs → opening_rows least bs ≡ None → rest ≡ drop 5 bs → record_of rest ≡ bs
record_forth least bs rest b h e =
    let q = opened least bs h in
    let size : 1 + length rest ≡ length_field bs = omega (arith, q.long, q.field, length-drop 5 bs, ap length e) in
    ap₂ (λ (n : ℕ) (l : List ℕ). four n ++ (1 ∷ l)) size e ∙ head_is bs q.long b q.version

-- a record of so few bytes passes them
record_opens : (least : ℕ) (rest : List ℕ) → length rest < 65535 → least ≤ 1 + length rest → opening_rows least (record_of rest) ≡ None
record_opens least rest h low =
    let bs = record_of rest in
    let field : length_field bs ≡ 1 + length rest = four_back (1 + length rest) (omega arith) in
    goes_on _ _ _ (and_from _ _ (le-leb 5 (length bs) (omega arith)) (and_from _ _ (eq-eqb (length_field bs + 4) (length bs) (omega arith)) (le-leb least (length_field bs) (omega arith))))

-- a profile that passes its rows has the right size
profile_passed : {F : Type 0} (l : Forms F) (c : Codes) (p : Profile) (n : ℕ) → profile_rows l c p n ≡ None → n ≡ 30 + height p
profile_passed l c p n h =
    let last = row (eqb n (30 + height p)) BodyLength None in
    let r3 = row_none (same_codes p.codes c) Code (row (within l p) refusals.Profile last) h in
    let r4 = row_none (within l p) refusals.Profile last r3.1 in
    let r5 = row_none (eqb n (30 + height p)) BodyLength None r4.1 in
    eqb-true n (30 + height p) r5.0

module _ {F : Type 0} (o : Ops F) (laws : Numbered o) where
  body_lawful : (n : ℕ) → Lawful (body_format o n)
  body_lawful n =
      shaped_lawful _ _ _ (after_lawful _ _ profile_lawful (after_lawful _ _ (raw_lawful 16) (elements_lawful o laws n))) (λ b. refl) (λ a. refl)

  public_forth : (l : Forms F) (c : Codes) (bs : List ℕ) → AllByRecursion Byte bs → public_rows o l c bs ≡ None → public_bytes o (public_value o bs) ≡ bs
  public_forth l c bs b h =
      let p = profile_of bs in
      let n = height p in
      let rest = drop 5 bs in
      let heads = first_none (opening_rows 32 bs) _ h in
      let rows = first_none (profile_rows l c p (length rest)) _ heads.1 in
      let size = profile_passed l c p (length rest) rows.0 in
      let good = (row_none _ _ _ rows.1).0 in
      let w = body_lawful n in
      let long : length rest ≡ 14 + (16 + n) = size ∙ omega arith in
      let fits = w.fits_forth rest long (All-drop Byte 5 bs b) good in
      let y : length (public_value o bs).y ≡ n = fits.1.1 in
      record_forth 32 bs ((body_format o (length (public_value o bs).y)).bytes (public_value o bs)) b heads.0 (w.bytes_forth rest long (All-drop Byte 5 bs b) good)

  module _ (l : Forms F) (c : Codes) (k : PublicKey F) (v : Valid o l c k) where
    n : ℕ
    n = length k.y

    body_fits : (body_format o n).fits k
    unfolding n
    body_fits = (v.small, (v.seed, refl))

    high : n ≡ height k.profile
    unfolding n
    high = omega (arith, v.height)

    profile_again : profile_of (public_bytes o k) ≡ k.profile
    profile_again = profile_back k.profile v.small

    public_back : public_value o (public_bytes o k) ≡ k
    unfolding n
    public_back =
        let bs = public_bytes o k in
        ap (λ (p : Profile). (body_format o (height p)).value (drop 5 bs)) profile_again
        ∙ ap (λ (j : ℕ). (body_format o j).value (drop 5 bs)) (sym high)
        ∙ (body_lawful n).value_back k body_fits

    public-taken : public_rows o l c (public_bytes o k) ≡ None
    unfolding n
    public-taken =
        let p = k.profile in
        let bs = public_bytes o k in
        let rest = (body_format o n).bytes k in
        let range = (withins l p v.limits).shape.range in
        let long : length rest ≡ 30 + n = (body_lawful n).long k body_fits ∙ omega arith in
        let small : n < 250 = omega (arith, range.m_high, range.k_low, v.height) in
        let some : 1 ≤ n = omega (arith, range.k_high, v.height) in
        let opens : opening_rows 32 bs ≡ None = record_opens 32 rest (omega arith) (omega arith) in
        let profiles : profile_rows l c (profile_of bs) (length rest) ≡ None =
        subst (λ (q : Profile). profile_rows l c q (length rest) ≡ None) (sym profile_again)
        (goes_on _ _ _ v.codes ∙ goes_on _ _ _ v.limits ∙ goes_on _ _ _ (eq-eqb (length rest) (30 + height p) (long ∙ ap (λ (j : ℕ). 30 + j) high))) in
        let good : (body_format o (height (profile_of bs))).good rest ≡ true =
        ap (λ (q : Profile). (body_format o (height q)).good rest) profile_again ∙ ap (λ (j : ℕ). (body_format o j).good rest) (sym high) ∙ (body_lawful n).good_back k body_fits in
        first_goes _ _ _ opens (first_goes _ _ _ profiles (goes_on _ _ _ good))

  pub public_trip : (l : Forms F) → PublicTrip o l
  public_trip l = record { taken = public-taken l; back = public_back l; forth = public_forth l }

  pub secret_trip : SecretTrip o
  secret_trip = record {
    taken = λ u h.
        let rest = map o.number u in
        let long : length rest ≡ length u = length-map u o.number in
        first_goes _ _ _ (record_opens 0 rest (omega arith) (omega arith))
        (goes_on _ _ _ (eq-eqb (length rest) (length u) long) ∙ goes_on _ _ _ ((elements_lawful o laws (length u)).good_back u refl));
    back = λ u. (elements_lawful o laws (length u)).value_back u refl;
    forth = λ n bs b h.
        let rest = drop 5 bs in
        let heads = first_none (opening_rows 0 bs) _ h in
        let r5 = row_none _ _ _ heads.1 in
        let r6 = row_none _ _ _ r5.1 in
        record_forth 0 bs (map o.number (secret_value o bs)) b heads.0
        ((elements_lawful o laws (length rest)).bytes_forth rest refl (All-drop Byte 5 bs b) r6.0);
  }
