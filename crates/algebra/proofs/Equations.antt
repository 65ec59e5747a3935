-- Equations that hold in every commutative ring, by `ring laws env e f refl`. Assumes nothing.
use Rattle.std.proofs.Common.{◌≡◌, ℕ, Bool, true, false, not, T, eqb, leb, List, [], ◌∷◌, get_or, sym, refl, ap, ◌∙◌, ap₂, eqb→eq}
use Rattle.algebra.specs.Fields.{Ops, Ring}
use Rattle.algebra.specs.Rings.{Expr, var, O, I, ◌⊕◌, ◌⊗◌, neg, ev, Term, and, eq_m, le_m, put_v, ins_v, mul_m, same_sign, put, ins_t, add_p, mul_t, scale_p, mul_p, neg_p, norm, RingEquations}

module _ {F : Type 0} {o : Ops F} (laws : Ring o) where
  pub zero-plus : (x : F) → o.plus o.zero x ≡ x
  zero-plus x = laws.plus_comm o.zero x ∙ laws.plus-zero x

  pub negate-plus_self : (x : F) → o.plus (o.negate x) x ≡ o.zero
  negate-plus_self x = laws.plus_comm (o.negate x) x ∙ laws.plus-negate x

  pub plus_cancel : (x y z : F) → o.plus x y ≡ o.plus x z → y ≡ z
  plus_cancel x y z e =
      let back : (w : F) → o.plus (o.negate x) (o.plus x w) ≡ w = λ w. sym (laws.plus_assoc (o.negate x) x w) ∙ ap (λ (t : F). o.plus t w) (negate-plus_self x) ∙ zero-plus w in
      sym (back y) ∙ ap (o.plus (o.negate x)) e ∙ back z

  pub negate_unique : (x y : F) → o.plus x y ≡ o.zero → y ≡ o.negate x
  negate_unique x y e = plus_cancel x y (o.negate x) (e ∙ sym (laws.plus-negate x))

  pub times_zero : (x : F) → o.times x o.zero ≡ o.zero
  times_zero x =
      plus_cancel (o.times x o.zero) (o.times x o.zero) o.zero
      (sym (laws.distrib x o.zero o.zero) ∙ ap (o.times x) (laws.plus-zero o.zero) ∙ sym (laws.plus-zero (o.times x o.zero)))

  pub zero-times : (x : F) → o.times o.zero x ≡ o.zero
  zero-times x = laws.times_comm o.zero x ∙ times_zero x

  pub one-times : (x : F) → o.times o.one x ≡ x
  one-times x = laws.times_comm o.one x ∙ laws.times-one x

  pub distrib_right : (x y z : F) → o.times (o.plus x y) z ≡ o.plus (o.times x z) (o.times y z)
  distrib_right x y z = laws.times_comm (o.plus x y) z ∙ laws.distrib z x y ∙ ap₂ o.plus (laws.times_comm z x) (laws.times_comm z y)

  pub plus_left_comm : (x y z : F) → o.plus x (o.plus y z) ≡ o.plus y (o.plus x z)
  plus_left_comm x y z = sym (laws.plus_assoc x y z) ∙ ap (λ (t : F). o.plus t z) (laws.plus_comm x y) ∙ laws.plus_assoc y x z

  pub times_left_comm : (x y z : F) → o.times x (o.times y z) ≡ o.times y (o.times x z)
  times_left_comm x y z = sym (laws.times_assoc x y z) ∙ ap (λ (t : F). o.times t z) (laws.times_comm x y) ∙ laws.times_assoc y x z

  pub negate-times : (x y : F) → o.times (o.negate x) y ≡ o.negate (o.times x y)
  negate-times x y =
      negate_unique (o.times x y) (o.times (o.negate x) y)
      (sym (distrib_right x (o.negate x) y) ∙ ap (λ (t : F). o.times t y) (laws.plus-negate x) ∙ zero-times y)

  pub times-negate : (x y : F) → o.times x (o.negate y) ≡ o.negate (o.times x y)
  times-negate x y = laws.times_comm x (o.negate y) ∙ negate-times y x ∙ ap o.negate (laws.times_comm y x)

  pub negate-negate : (x : F) → o.negate (o.negate x) ≡ x
  negate-negate x = sym (negate_unique (o.negate x) x (negate-plus_self x))

  pub negate_zero : o.negate o.zero ≡ o.zero
  negate_zero = sym (negate_unique o.zero o.zero (laws.plus-zero o.zero))

  pub negate-plus : (x y : F) → o.negate (o.plus x y) ≡ o.plus (o.negate x) (o.negate y)
  negate-plus x y =
      sym (negate_unique (o.plus x y) (o.plus (o.negate x) (o.negate y))
      (laws.plus_assoc x y (o.plus (o.negate x) (o.negate y))
      ∙ ap (o.plus x) (plus_left_comm y (o.negate x) (o.negate y) ∙ ap (o.plus (o.negate x)) (laws.plus-negate y) ∙ laws.plus-zero (o.negate x))
      ∙ laws.plus-negate x))

-- what monomials and terms stand for
module _ {F : Type 0} (o : Ops F) (env : List F) where
  abbrev ev_m : List ℕ → F
  ev_m [] = o.one
  ev_m (x ∷ m) = o.times (get_or env x o.zero) (ev_m m)

  abbrev sgn : Bool → F → F
  sgn true x = x
  sgn false x = o.negate x

  abbrev ev_p : List Term → F
  ev_p [] = o.zero
  ev_p (a ∷ p) = o.plus (sgn a.0 (ev_m a.1)) (ev_p p)

eq_m_eq : (m n : List ℕ) → T (eq_m m n) → m ≡ n
eq_m_eq [] [] t = refl
eq_m_eq [] (y ∷ n) t = absurd t
eq_m_eq (x ∷ m) [] t = absurd t
eq_m_eq (x ∷ m) (y ∷ n) t = ap₂ (λ (a : ℕ) (l : List ℕ). a ∷ l) (eqb→eq x y (left (eqb x y) t)) (eq_m_eq m n (right (eqb x y) t))
  where
    left : (a : Bool) → T (and a (eq_m m n)) → T a
    left true t = tt
    left false t = t

    right : (a : Bool) → T (and a (eq_m m n)) → T (eq_m m n)
    right true t = t
    right false t = absurd t

module _ {F : Type 0} {o : Ops F} (laws : Ring o) (env : List F) where
  put_v-ev : (b : Bool) (x y : ℕ) (m r : List ℕ) → ev_m o env r ≡ o.times (get_or env x o.zero) (ev_m o env m)
      → ev_m o env (put_v b x y m r) ≡ o.times (get_or env x o.zero) (o.times (get_or env y o.zero) (ev_m o env m))
  put_v-ev true x y m r e = refl
  put_v-ev false x y m r e = ap (o.times (get_or env y o.zero)) e ∙ times_left_comm laws (get_or env y o.zero) (get_or env x o.zero) (ev_m o env m)

  ins_v-ev : (x : ℕ) (m : List ℕ) → ev_m o env (ins_v x m) ≡ o.times (get_or env x o.zero) (ev_m o env m)
  ins_v-ev x [] = refl
  ins_v-ev x (y ∷ m) = put_v-ev (leb x y) x y m (ins_v x m) (ins_v-ev x m)

  mul_m-ev : (m n : List ℕ) → ev_m o env (mul_m m n) ≡ o.times (ev_m o env m) (ev_m o env n)
  mul_m-ev [] n = sym (one-times laws (ev_m o env n))
  mul_m-ev (x ∷ m) n =
      ins_v-ev x (mul_m m n) ∙ ap (o.times (get_or env x o.zero)) (mul_m-ev m n)
      ∙ sym (laws.times_assoc (get_or env x o.zero) (ev_m o env m) (ev_m o env n))

  sgn_opposite : (s t : Bool) (x : F) → T (not (same_sign s t)) → o.plus (sgn o env s x) (sgn o env t x) ≡ o.zero
  sgn_opposite true true x n = absurd n
  sgn_opposite true false x n = laws.plus-negate x
  sgn_opposite false true x n = negate-plus_self laws x
  sgn_opposite false false x n = absurd n

  sgn-times : (s t : Bool) (x y : F) → sgn o env (same_sign s t) (o.times x y) ≡ o.times (sgn o env s x) (sgn o env t y)
  sgn-times true true x y = refl
  sgn-times true false x y = sym (times-negate laws x y)
  sgn-times false true x y = sym (negate-times laws x y)
  sgn-times false false x y = sym (negate-times laws x (o.negate y) ∙ ap o.negate (times-negate laws x y) ∙ negate-negate laws (o.times x y))

  put-ev : (e s l : Bool) (a b : Term) (p r : List Term) → (T e → a.1 ≡ b.1) → (T (not s) → T (not (same_sign a.0 b.0)))
      → ev_p o env r ≡ o.plus (sgn o env a.0 (ev_m o env a.1)) (ev_p o env p)
      → ev_p o env (put e s l a b p r) ≡ o.plus (sgn o env a.0 (ev_m o env a.1)) (ev_p o env (b ∷ p))
  put-ev true true l a b p r he hs hr = refl
  put-ev true false l a b p r he hs hr =
      sym (ap (λ (m : List ℕ). o.plus (sgn o env a.0 (ev_m o env m)) (ev_p o env (b ∷ p))) (he tt)
      ∙ sym (laws.plus_assoc (sgn o env a.0 (ev_m o env b.1)) (sgn o env b.0 (ev_m o env b.1)) (ev_p o env p))
      ∙ ap (λ (t : F). o.plus t (ev_p o env p)) (sgn_opposite a.0 b.0 (ev_m o env b.1) (hs tt))
      ∙ zero-plus laws (ev_p o env p))
  put-ev false s true a b p r he hs hr = refl
  put-ev false s false a b p r he hs hr =
      ap (o.plus (sgn o env b.0 (ev_m o env b.1))) hr
      ∙ plus_left_comm laws (sgn o env b.0 (ev_m o env b.1)) (sgn o env a.0 (ev_m o env a.1)) (ev_p o env p)

  ins_t-ev : (a : Term) (p : List Term) → ev_p o env (ins_t a p) ≡ o.plus (sgn o env a.0 (ev_m o env a.1)) (ev_p o env p)
  ins_t-ev a [] = refl
  ins_t-ev a (b ∷ p) =
      put-ev (eq_m a.1 b.1) (same_sign a.0 b.0) (le_m a.1 b.1) a b p (ins_t a p) (eq_m_eq a.1 b.1) (λ t. t) (ins_t-ev a p)

  add_p-ev : (p q : List Term) → ev_p o env (add_p p q) ≡ o.plus (ev_p o env p) (ev_p o env q)
  add_p-ev [] q = sym (zero-plus laws (ev_p o env q))
  add_p-ev (a ∷ p) q =
      ins_t-ev a (add_p p q) ∙ ap (o.plus (sgn o env a.0 (ev_m o env a.1))) (add_p-ev p q)
      ∙ sym (laws.plus_assoc (sgn o env a.0 (ev_m o env a.1)) (ev_p o env p) (ev_p o env q))

  scale_p-ev : (a : Term) (p : List Term) → ev_p o env (scale_p a p) ≡ o.times (sgn o env a.0 (ev_m o env a.1)) (ev_p o env p)
  scale_p-ev a [] = sym (times_zero laws (sgn o env a.0 (ev_m o env a.1)))
  scale_p-ev a (b ∷ p) =
      ins_t-ev (mul_t a b) (scale_p a p)
      ∙ ap₂ o.plus (ap (sgn o env (same_sign a.0 b.0)) (mul_m-ev a.1 b.1) ∙ sgn-times a.0 b.0 (ev_m o env a.1) (ev_m o env b.1)) (scale_p-ev a p)
      ∙ sym (laws.distrib (sgn o env a.0 (ev_m o env a.1)) (sgn o env b.0 (ev_m o env b.1)) (ev_p o env p))

  mul_p-ev : (p q : List Term) → ev_p o env (mul_p p q) ≡ o.times (ev_p o env p) (ev_p o env q)
  mul_p-ev [] q = sym (zero-times laws (ev_p o env q))
  mul_p-ev (a ∷ p) q =
      add_p-ev (scale_p a q) (mul_p p q) ∙ ap₂ o.plus (scale_p-ev a q) (mul_p-ev p q)
      ∙ sym (distrib_right laws (sgn o env a.0 (ev_m o env a.1)) (ev_p o env p) (ev_p o env q))

  sgn_not : (s : Bool) (x : F) → sgn o env (not s) x ≡ o.negate (sgn o env s x)
  sgn_not true x = refl
  sgn_not false x = sym (negate-negate laws x)

  neg_p-ev : (p : List Term) → ev_p o env (neg_p p) ≡ o.negate (ev_p o env p)
  neg_p-ev [] = sym (negate_zero laws)
  neg_p-ev (a ∷ p) =
      ap₂ o.plus (sgn_not a.0 (ev_m o env a.1)) (neg_p-ev p)
      ∙ sym (negate-plus laws (sgn o env a.0 (ev_m o env a.1)) (ev_p o env p))

  norm-ev : (e : Expr) → ev_p o env (norm e) ≡ ev o env e
  norm-ev (var i) = laws.plus-zero (o.times (get_or env i o.zero) o.one) ∙ laws.times-one (get_or env i o.zero)
  norm-ev O = refl
  norm-ev I = laws.plus-zero o.one
  norm-ev (e ⊕ f) = add_p-ev (norm e) (norm f) ∙ ap₂ o.plus (norm-ev e) (norm-ev f)
  norm-ev (e ⊗ f) = mul_p-ev (norm e) (norm f) ∙ ap₂ o.times (norm-ev e) (norm-ev f)
  norm-ev (neg e) = neg_p-ev (norm e) ∙ ap o.negate (norm-ev e)

module _ {F : Type 0} {o : Ops F} (laws : Ring o) where
  pub ring : RingEquations o
  ring env e f h = sym (norm-ev laws env e) ∙ ap (ev_p o env) h ∙ norm-ev laws env f
