-- Ascending lists as sets of numbers: membership in what the operations make, and what follows from it. Assumes nothing.
use mathlib.Core.Path.{◌≡◌, refl, sym, ap, ap₂, ◌∙◌, subst}
use mathlib.Core.Logic.{◌⊎◌, inl, inr}
use mathlib.Core.Bool.{Bool, true, false, cond, not, ◌&&◌, ◌||◌, false≢true, and_assoc, or_comm, or_assoc, or_self_left}
use mathlib.Core.List.Memᴰ
use mathlib.Core.List.Memᴰ.{head as here}
use mathlib.Core.List.Memᴰ.{tail as there}
use mathlib.Core.List.{List, [], ◌∷◌, ◌++◌}
use Prim.Native.Nat.{ℕ, zero, suc, ◌+◌, ◌<◌, ◌≤◌}
use native.Mathlib.Omega.{arith}
use lib.Dec.{leb, ltb, eqb}
use lib.ListN.{length}
use borrow.Author.Tests.{ltb-true, ltb-false, eqb-true, eqb-false, leb-true, lt-ltb, le-leb, eq-eqb, not-true}
use Rattle.sets.specs.Lists.{any, all, keep, is_nil, from}
use Rattle.sets.specs.Literal.{opposite_of}
use Rattle.sets.specs.Sets.{mem, sub, apart, asc, proper, insert, union, without, meet, same}
use Rattle.sets.proofs.Truth.{iff, both, together, either, or_right, decided, clash, refuted}
use Rattle.sets.proofs.Lists.{◌∈◌, any-in, any_out, all_in, all-out, keep-in, keep_out, pairwise-keep, ahead}
use Rattle.sets.proofs.Orders.{ltb-order, ext-in}

-- ---- membership

pub mem-of : {x : ℕ} {c : List ℕ} → x ∈ c → mem x c ≡ true
unfolding mem
mem-of {x} m = any-in (eqb x) m (eq-eqb x x refl)

pub of_mem : (x : ℕ) (c : List ℕ) → mem x c ≡ true → x ∈ c
unfolding mem
of_mem x c h = let r = any_out (eqb x) c h in Memᴰ.cast (eqb-true x r.0 r.2) r.1

swap_or : (a b c : Bool) → (a || (b || c)) ≡ (b || (a || c))
swap_or true true c = refl
swap_or true false c = refl
swap_or false b c = refl

pub insert-mem : (z x : ℕ) (c : List ℕ) → mem z (insert x c) ≡ (eqb z x || mem z c)
unfolding mem insert
insert-mem z x [] = refl
insert-mem z x (y ∷ c) = go (ltb x y) (eqb x y) refl (insert-mem z x c)
  where
    go : (b e : Bool) → eqb x y ≡ e → any (eqb z) (insert x c) ≡ (eqb z x || any (eqb z) c)
        → any (eqb z) (cond b (x ∷ y ∷ c) (cond e (y ∷ c) (y ∷ insert x c))) ≡ (eqb z x || (eqb z y || any (eqb z) c))
    go true e h k = refl
    go false true h k = rw (eqb-true x y h) (sym (or_self_left (eqb z y) (any (eqb z) c)))
    go false false h k = rw k (swap_or (eqb z y) (eqb z x) (any (eqb z) c))

pub union-mem : (z : ℕ) (a b : List ℕ) → mem z (union a b) ≡ (mem z a || mem z b)
unfolding union mem
union-mem z [] b = refl
union-mem z (x ∷ a) b = insert-mem z x (union a b) ∙ rw (union-mem z a b) (sym (or_assoc (eqb z x) (mem z a) (mem z b)))

pub keep-mem : (f : ℕ → Bool) (z : ℕ) (c : List ℕ) → mem z (keep f c) ≡ (mem z c && f z)
keep-mem f z c = iff
    (λ h. let q = keep_out f c (of_mem z _ h) in together (mem z c) (f z) (mem-of q.0) q.1)
    (λ h. let q = both (mem z c) (f z) h in mem-of (keep-in f (of_mem z c q.0) q.1))

pub without-mem : (z : ℕ) (a b : List ℕ) → mem z (without a b) ≡ (mem z a && not (mem z b))
unfolding without
without-mem z a b = keep-mem (λ x. not (mem x b)) z a

pub meet-mem : (z : ℕ) (a b : List ℕ) → mem z (meet a b) ≡ (mem z a && mem z b)
unfolding meet
meet-mem z a b = keep-mem (λ x. mem x b) z a

pub from-mem : (k m z : ℕ) → mem z (from k m) ≡ (leb k z && ltb z (k + m))
unfolding from mem
from-mem k zero z = sym (refuted (λ h. let q = both (leb k z) (ltb z (k + zero)) h in omega (arith, leb-true k z q.0, ltb-true z (k + zero) q.1)))
from-mem k (suc m) z = let r = from-mem (suc k) m z in
    iff (λ h. into r (either (eqb z k) (mem z (from (suc k) m)) h)) (λ h. back r (both (leb k z) (ltb z (k + suc m)) h) (decided (eqb z k)))
  where
    into : mem z (from (suc k) m) ≡ (leb (suc k) z && ltb z (suc k + m)) → (eqb z k ≡ true) ⊎ (mem z (from (suc k) m) ≡ true)
        → (leb k z && ltb z (k + suc m)) ≡ true
    into r (inl e) = together (leb k z) (ltb z (k + suc m)) (omega (arith, eqb-true z k e, le-leb)) (omega (arith, eqb-true z k e, lt-ltb))
    into r (inr t) = let q = both (leb (suc k) z) (ltb z (suc k + m)) (sym r ∙ t) in
        together (leb k z) (ltb z (k + suc m)) (omega (arith, leb-true (suc k) z q.0, le-leb)) (omega (arith, ltb-true z (suc k + m) q.1, lt-ltb))

    back : mem z (from (suc k) m) ≡ (leb (suc k) z && ltb z (suc k + m)) → (leb k z ≡ true) × (ltb z (k + suc m) ≡ true) → (eqb z k ≡ true) ⊎ (eqb z k ≡ false)
        → (eqb z k || mem z (from (suc k) m)) ≡ true
    back r q (inl e) = rw e
    back r q (inr e) = rw e (r ∙ together (leb (suc k) z) (ltb z (suc k + m)) (omega (arith, leb-true k z q.0, eqb-false z k e, le-leb))
        (omega (arith, ltb-true z (k + suc m) q.1, lt-ltb)))

pub from_in : (k m z : ℕ) → k ≤ z → z < k + m → mem z (from k m) ≡ true
from_in k m z h i = from-mem k m z ∙ together (leb k z) (ltb z (k + m)) (le-leb k z h) (lt-ltb z (k + m) i)

pub from_out : (k m z : ℕ) → mem z (from k m) ≡ true → (k ≤ z) × (z < k + m)
from_out k m z h = let q = both (leb k z) (ltb z (k + m)) (sym (from-mem k m z) ∙ h) in (leb-true k z q.0, ltb-true z (k + m) q.1)

pub mem-append : (z : ℕ) (a b : List ℕ) → mem z (a ++ b) ≡ (mem z a || mem z b)
unfolding mem
mem-append z [] b = refl
mem-append z (x ∷ a) b = rw (mem-append z a b) (sym (or_assoc (eqb z x) (mem z a) (mem z b)))

pub all-mem : (v : ℕ → Bool) (c : List ℕ) → ((z : ℕ) → mem z c ≡ true → v z ≡ true) → all v c ≡ true
all-mem v c k = all_in v c (λ z m. k z (mem-of m))

pub mem-all : (v : ℕ → Bool) (c : List ℕ) (z : ℕ) → all v c ≡ true → mem z c ≡ true → v z ≡ true
mem-all v c z h m = all-out v (of_mem z c m) h

pub sub_in : (a b : List ℕ) → ((z : ℕ) → mem z a ≡ true → mem z b ≡ true) → sub a b ≡ true
unfolding sub
sub_in a b k = all-mem (λ x. mem x b) a k

pub sub_out : (a b : List ℕ) (z : ℕ) → sub a b ≡ true → mem z a ≡ true → mem z b ≡ true
unfolding sub
sub_out a b z h m = mem-all (λ x. mem x b) a z h m

pub apart_in : (a b : List ℕ) → ((z : ℕ) → mem z a ≡ true → mem z b ≡ false) → apart a b ≡ true
unfolding apart
apart_in a b k = all-mem (λ x. not (mem x b)) a (λ z m. ap not (k z m))

pub apart_out : (a b : List ℕ) (z : ℕ) → apart a b ≡ true → mem z a ≡ true → mem z b ≡ false
unfolding apart
apart_out a b z h m = not-true (mem z b) (mem-all (λ x. not (mem x b)) a z h m)

-- ---- order

insert-out : (z x : ℕ) (c : List ℕ) → z ∈ insert x c → (z ≡ x) ⊎ (z ∈ c)
insert-out z x c m = elim (either (eqb z x) (mem z c) (sym (insert-mem z x c) ∙ mem-of m)) [ inl e ↦ inl (eqb-true z x e) | inr e ↦ inr (of_mem z c e) ]

pub insert-asc : (x : ℕ) (c : List ℕ) → asc c ≡ true → asc (insert x c) ≡ true
unfolding insert
insert-asc x [] h = refl
insert-asc x (y ∷ c) h = go (ltb x y) refl (eqb x y) refl (insert-asc x c (ahead ltb y c h).1)
  where
    below : (z : ℕ) → z ∈ c → ltb y z ≡ true
    below z m = all-out (ltb y) m (ahead ltb y c h).0

    above : ltb x y ≡ true → (z : ℕ) → z ∈ (y ∷ c) → ltb x z ≡ true
    above l z (here e) = rw e l
    above l z (there m) = let k = below z m in omega (arith, ltb-true, lt-ltb)

    inner : ltb x y ≡ false → eqb x y ≡ false → (z : ℕ) → z ∈ insert x c → ltb y z ≡ true
    inner l e z m = elim (insert-out z x c m) [ inl q ↦ omega (arith, ltb-false x y l, eqb-false x y e, lt-ltb) | inr q ↦ below z q ]

    go : (b : Bool) → ltb x y ≡ b → (e : Bool) → eqb x y ≡ e → asc (insert x c) ≡ true → asc (cond b (x ∷ y ∷ c) (cond e (y ∷ c) (y ∷ insert x c))) ≡ true
    go true l e k r = rw (all_in (ltb x) (y ∷ c) (above l)) h
    go false l true k r = h
    go false l false k r = rw (all_in (ltb y) (insert x c) (inner l k)) r

pub union-asc : (a b : List ℕ) → asc b ≡ true → asc (union a b) ≡ true
unfolding union
union-asc [] b h = h
union-asc (x ∷ a) b h = insert-asc x (union a b) (union-asc a b h)

pub without-asc : (a b : List ℕ) → asc a ≡ true → asc (without a b) ≡ true
unfolding without
without-asc a b h = pairwise-keep ltb (λ x. not (mem x b)) a h

pub meet-asc : (a b : List ℕ) → asc a ≡ true → asc (meet a b) ≡ true
unfolding meet
meet-asc a b h = pairwise-keep ltb (λ x. mem x b) a h

pub from-asc : (k m : ℕ) → asc (from k m) ≡ true
unfolding from
from-asc k zero = refl
from-asc k (suc m) = together _ _ (all_in (ltb k) (from (suc k) m) (λ z i. above z (from-mem (suc k) m z) (mem-of i))) (from-asc (suc k) m)
  where
    above : (z : ℕ) → mem z (from (suc k) m) ≡ (leb (suc k) z && ltb z (suc k + m)) → mem z (from (suc k) m) ≡ true → ltb k z ≡ true
    above z e i = omega (arith, leb-true (suc k) z (both (leb (suc k) z) (ltb z (suc k + m)) (sym e ∙ i)).0, lt-ltb)

-- ---- the head of an ascending list is its least, and a tail's members are known from the list's

pub mem-head : (x : ℕ) (c : List ℕ) → mem x (x ∷ c) ≡ true
mem-head x c = mem-of {c = x ∷ c} (here refl)

pub head-le : (x : ℕ) (c : List ℕ) (z : ℕ) → asc (x ∷ c) ≡ true → mem z (x ∷ c) ≡ true → x ≤ z
unfolding mem
head-le x c z h m = elim (either (eqb z x) (mem z c) m)
    [ inl e ↦ omega (arith, eqb-true z x e) | inr t ↦ omega (arith, ltb-true x z (all-out (ltb x) (of_mem z c t) (ahead ltb x c h).0)) ]

pub tail-asc : (x : ℕ) (c : List ℕ) → asc (x ∷ c) ≡ true → asc c ≡ true
tail-asc x c h = (ahead ltb x c h).1

-- an element below all the others is not among them
pub head-once : (x : ℕ) (c : List ℕ) → asc (x ∷ c) ≡ true → mem x c ≡ false
head-once x c h = refuted (λ m. let l = ltb-true x x (all-out (ltb x) (of_mem x c m) (ahead ltb x c h).0) in omega arith)

pub tail-mem : (x : ℕ) (a b : List ℕ) (z : ℕ) → asc (x ∷ a) ≡ true → asc (x ∷ b) ≡ true → mem z (x ∷ a) ≡ mem z (x ∷ b) → mem z a ≡ mem z b
unfolding mem
tail-mem x a b z h k e = elim (decided (eqb z x)) [
  | inl q ↦ let r = eqb-true z x q in rw r (head-once x a h ∙ sym (head-once x b k))
  | inr q ↦ rw q at e
]

-- two ascending lists with the same elements are equal
pub ext : (a b : List ℕ) → asc a ≡ true → asc b ≡ true → ((z : ℕ) → mem z a ≡ mem z b) → a ≡ b
ext a b h k e = ext-in ltb ltb-order a b h k (λ z m. of_mem z b (sym (e z) ∙ mem-of m)) (λ z m. of_mem z a (e z ∙ mem-of m))

-- ---- values and lengths

pub insert_all : (v : ℕ → Bool) (x : ℕ) (c : List ℕ) → all v (insert x c) ≡ (v x && all v c)
insert_all v x c = iff
    (λ h. rw (mem-all v (insert x c) x h (insert-mem x x c ∙ rw (eq-eqb x x refl)))
    (all-mem v c (λ z m. mem-all v (insert x c) z h (insert-mem z x c ∙ or_right (eqb z x) (mem z c) m))))
    (λ h. let q = both (v x) (all v c) h in all-mem v (insert x c) (λ z m.
    elim (either (eqb z x) (mem z c) (sym (insert-mem z x c) ∙ m)) [ inl e ↦ ap v (eqb-true z x e) ∙ q.0 | inr e ↦ mem-all v c z q.1 e ]))

pub insert-length : (x : ℕ) (c : List ℕ) → mem x c ≡ false → length (insert x c) ≡ suc (length c)
unfolding insert mem
insert-length x [] h = refl
insert-length x (y ∷ c) h = go (ltb x y) (eqb x y) h (insert-length x c)
  where
    go : (b e : Bool) → (e || any (eqb x) c) ≡ false → (any (eqb x) c ≡ false → length (insert x c) ≡ suc (length c))
        → length (cond b (x ∷ y ∷ c) (cond e (y ∷ c) (y ∷ insert x c))) ≡ suc (suc (length c))
    go true e h k = refl
    go false true h k = clash refl h
    go false false h k = ap suc (k h)

pub union-all : (v : ℕ → Bool) (a b : List ℕ) → all v (union a b) ≡ (all v a && all v b)
unfolding union
union-all v [] b = refl
union-all v (x ∷ a) b = insert_all v x (union a b) ∙ rw (union-all v a b) (sym (and_assoc (v x) (all v a) (all v b)))

pub union-length : (a b : List ℕ) → asc a ≡ true → apart a b ≡ true → length (union a b) ≡ length a + length b
unfolding union apart
union-length [] b h k = omega arith
union-length (x ∷ a) b h k =
    let q = both (not (mem x b)) (all (λ z. not (mem z b)) a) k in
    let fresh : mem x (union a b) ≡ false = rw (union-mem, head-once x a h) (not-true (mem x b) q.0) in
    omega (arith, insert-length x (union a b) fresh, union-length a b (ahead ltb x a h).1 q.1)

-- ---- a part taken out of a cube, and put in again

pub without-apart : (c a : List ℕ) → apart (without c a) a ≡ true
without-apart c a = apart_in (without c a) a (λ z m. not-true (mem z a) (both (mem z c) (not (mem z a)) (sym (without-mem z c a) ∙ m)).1)

back : (p q : Bool) → (q ≡ true → p ≡ true) → ((p && not q) || q) ≡ p
back true true k = refl
back true false k = refl
back false true k = sym (k refl)
back false false k = refl

pub rejoin : (c a : List ℕ) → asc c ≡ true → asc a ≡ true → sub a c ≡ true → union (without c a) a ≡ c
rejoin c a h k s = ext (union (without c a) a) c (union-asc (without c a) a k) h
    (λ z. simp (union-mem, without-mem) (back (mem z c) (mem z a) (sub_out a c z s)))

out : (p q : Bool) → (p ≡ true → q ≡ false) → ((p || q) && not q) ≡ p
out true true k = clash refl (k refl)
out true false k = refl
out false true k = refl
out false false k = refl

pub unjoin : (b a : List ℕ) → asc b ≡ true → asc a ≡ true → apart b a ≡ true → without (union b a) a ≡ b
unjoin b a h k s = ext (without (union b a) a) b (without-asc (union b a) a (union-asc b a k)) h
    (λ z. simp (without-mem, union-mem) (out (mem z b) (mem z a) (apart_out b a z s)))

module _ (c a : List ℕ) (h : asc c ≡ true) (k : asc a ≡ true) (s : sub a c ≡ true) where
  pub all-rejoin : (v : ℕ → Bool) → all v c ≡ (all v (without c a) && all v a)
  all-rejoin v = ap (all v) (sym (rejoin c a h k s)) ∙ union-all v (without c a) a

  pub length-rejoin : length c ≡ length (without c a) + length a
  length-rejoin = ap length (sym (rejoin c a h k s)) ∙ union-length (without c a) a (without-asc c a h) (without-apart c a)

-- ---- containing, as a partial order; the common part

pub sub_refl : (a : List ℕ) → sub a a ≡ true
sub_refl a = sub_in a a (λ z m. m)

pub sub_trans : (a b c : List ℕ) → sub a b ≡ true → sub b c ≡ true → sub a c ≡ true
sub_trans a b c p q = sub_in a c (λ z m. sub_out b c z q (sub_out a b z p m))

pub sub-antisym : (a b : List ℕ) → asc a ≡ true → asc b ≡ true → sub a b ≡ true → sub b a ≡ true → a ≡ b
sub-antisym a b h k p q = ext a b h k (λ z. iff (sub_out a b z p) (sub_out b a z q))

-- nothing is in both exactly where the two are apart
pub meet-none : (a b : List ℕ) → is_nil (meet a b) ≡ apart a b
unfolding meet apart
meet-none [] b = refl
meet-none (x ∷ a) b = elim (decided (mem x b)) [ inl h ↦ rw h | inr h ↦ rw h (meet-none a b) ]

pub union_left : (a b : List ℕ) → sub a (union a b) ≡ true
union_left a b = sub_in a (union a b) (λ z m. union-mem z a b ∙ rw m)

pub union_right : (a b : List ℕ) → sub b (union a b) ≡ true
union_right a b = sub_in b (union a b) (λ z m. union-mem z a b ∙ rw (m, or_comm (mem z a) true))

pub without_sub : (a b : List ℕ) → sub (without a b) a ≡ true
without_sub a b = sub_in (without a b) a (λ z m. (both (mem z a) (not (mem z b)) (sym (without-mem z a b) ∙ m)).0)

pub union_comm : (a b : List ℕ) → asc a ≡ true → asc b ≡ true → union a b ≡ union b a
union_comm a b h k = ext (union a b) (union b a) (union-asc a b k) (union-asc b a h) (λ z. simp union-mem (or_comm (mem z a) (mem z b)))

-- nothing is left of a cube that another contains
pub without-none : (a b : List ℕ) → is_nil (without a b) ≡ sub a b
unfolding without sub
without-none [] b = refl
without-none (x ∷ a) b = elim (mem x b) as (λ t. is_nil (cond (not t) (x ∷ keep (λ z. not (mem z b)) a) (keep (λ z. not (mem z b)) a)) ≡
    (t && all (λ z. mem z b) a))
    [ true ↦ without-none a b | false ↦ refl ]

-- a list is empty exactly when it has no member
pub nil-mem : (c : List ℕ) → is_nil c ≡ true → (z : ℕ) → mem z c ≡ false
unfolding mem
nil-mem [] h z = refl
nil-mem (x ∷ c) h z = absurd (false≢true h)

pub mem-nil : (c : List ℕ) → ((z : ℕ) → mem z c ≡ false) → is_nil c ≡ true
mem-nil [] h = refl
mem-nil (x ∷ c) h = clash (mem-of {c = x ∷ c} (here refl)) (h x)

-- ---- the same cube

pub same-eq : (a b : List ℕ) → same a b ≡ true → a ≡ b
unfolding same
same-eq [] [] h = refl
same-eq [] (y ∷ b) h = absurd (false≢true h)
same-eq (x ∷ a) [] h = absurd (false≢true h)
same-eq (x ∷ a) (y ∷ b) h = let q = both (eqb x y) (same a b) h in ap₂ ◌∷◌ (eqb-true x y q.0) (same-eq a b q.1)

pub same_self : (a : List ℕ) → same a a ≡ true
unfolding same
same_self [] = refl
same_self (x ∷ a) = rw (eq-eqb x x refl) (same_self a)

pub eq-same : (a b : List ℕ) → a ≡ b → same a b ≡ true
eq-same a b e = subst (λ z. same a z ≡ true) e (same_self a)

-- ---- no variable both ways

pub proper-in : (c : List ℕ) → ((z : ℕ) → mem z c ≡ true → mem (opposite_of z) c ≡ false) → proper c ≡ true
unfolding proper
proper-in c k = all-mem (λ z. not (mem (opposite_of z) c)) c (λ z m. ap not (k z m))

pub proper-out : (c : List ℕ) (z : ℕ) → proper c ≡ true → mem z c ≡ true → mem (opposite_of z) c ≡ false
unfolding proper
proper-out c z h m = not-true _ (mem-all (λ x. not (mem (opposite_of x) c)) c z h m)

-- a part of a proper cube is proper
pub proper-sub : (a b : List ℕ) → sub a b ≡ true → proper b ≡ true → proper a ≡ true
proper-sub a b s h = proper-in a (λ z m. refuted (λ o. clash (sub_out a b (opposite_of z) s o) (proper-out b z h (sub_out a b z s m))))
