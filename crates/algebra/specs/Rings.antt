-- Equations that hold in every commutative ring: expressions, their values, and a normal form. Assumes nothing.
use Rattle.std.specs.Prelude.{◌≡◌, ℕ, Bool, true, false, not, List, [], ◌∷◌, ◌==◌, nat_le, nat_lt, slice_index_or}
use Rattle.algebra.specs.Fields.{Ops}

infixl 20 ◌⊕◌
infixl 30 ◌⊗◌
-- sums, products and negatives of variables, zero and one
pub data Expr : Type 0 where
  var : ℕ → Expr
  O : Expr
  I : Expr
  ◌⊕◌ : Expr → Expr → Expr
  ◌⊗◌ : Expr → Expr → Expr
  neg : Expr → Expr

-- what an expression stands for, variable i being the i-th of a list
module _ {F : Type 0} (o : Ops F) (env : List F) where
  abbrev pub ev : Expr → F
  ev (var i) = slice_index_or env i o.zero
  ev O = o.zero
  ev I = o.one
  ev (e ⊕ f) = o.plus (ev e) (ev f)
  ev (e ⊗ f) = o.times (ev e) (ev f)
  ev (neg e) = o.negate (ev e)

-- A monomial is the rising list of its variables, a term a sign (true for plus) and a monomial, and a normal form the rising list of
-- its terms.
abbrev pub Term : Type 0
Term = Bool × List ℕ

abbrev pub and : Bool → Bool → Bool
and true b = b
and false b = false

abbrev pub eq_m : List ℕ → List ℕ → Bool
eq_m [] [] = true
eq_m [] (y ∷ n) = false
eq_m (x ∷ m) [] = false
eq_m (x ∷ m) (y ∷ n) = and (x == y) (eq_m m n)

abbrev pub either : Bool → Bool → Bool → Bool
either true a b = a
either false a b = b

abbrev pub le_m : List ℕ → List ℕ → Bool
le_m [] n = true
le_m (x ∷ m) [] = false
le_m (x ∷ m) (y ∷ n) = either (x == y) (le_m m n) (nat_lt x y)

abbrev pub put_v : Bool → ℕ → ℕ → List ℕ → List ℕ → List ℕ
put_v true x y m r = x ∷ y ∷ m
put_v false x y m r = y ∷ r

-- a monomial times a variable
abbrev pub ins_v : ℕ → List ℕ → List ℕ
ins_v x [] = x ∷ []
ins_v x (y ∷ m) = put_v (nat_le x y) x y m (ins_v x m)

abbrev pub mul_m : List ℕ → List ℕ → List ℕ
mul_m [] n = n
mul_m (x ∷ m) n = ins_v x (mul_m m n)

abbrev pub same_sign : Bool → Bool → Bool
same_sign true b = b
same_sign false b = not b

abbrev pub put : Bool → Bool → Bool → Term → Term → List Term → List Term → List Term
put true true l a b p r = a ∷ b ∷ p
put true false l a b p r = p
put false s true a b p r = a ∷ b ∷ p
put false s false a b p r = b ∷ r

-- a normal form plus a term, which its opposite takes away
abbrev pub ins_t : Term → List Term → List Term
ins_t a [] = a ∷ []
ins_t a (b ∷ p) = put (eq_m a.1 b.1) (same_sign a.0 b.0) (le_m a.1 b.1) a b p (ins_t a p)

abbrev pub add_p : List Term → List Term → List Term
add_p [] q = q
add_p (a ∷ p) q = ins_t a (add_p p q)

abbrev pub mul_t : Term → Term → Term
mul_t a b = (same_sign a.0 b.0, mul_m a.1 b.1)

abbrev pub scale_p : Term → List Term → List Term
scale_p a [] = []
scale_p a (b ∷ p) = ins_t (mul_t a b) (scale_p a p)

abbrev pub mul_p : List Term → List Term → List Term
mul_p [] q = []
mul_p (a ∷ p) q = add_p (scale_p a q) (mul_p p q)

abbrev pub neg_p : List Term → List Term
neg_p [] = []
neg_p (a ∷ p) = (not a.0, a.1) ∷ neg_p p

abbrev pub norm : Expr → List Term
norm (var i) = (true, i ∷ []) ∷ []
norm O = []
norm I = (true, []) ∷ []
norm (e ⊕ f) = add_p (norm e) (norm f)
norm (e ⊗ f) = mul_p (norm e) (norm f)
norm (neg e) = neg_p (norm e)

-- expressions with one normal form are equal, whatever the variables stand for
abbrev pub RingEquations : {F : Type 0} → Ops F → Type 0
RingEquations {F} o = (env : List F) (e f : Expr) → norm e ≡ norm f → ev o env e ≡ ev o env f
