-- Cubes put into words one after another: what then stands there, before and after; a part put anew; words filled from the front. Assumes nothing.
use Prim.Native.Nat.{ℕ, ◌+◌, ◌-◌, ◌*◌, ◌<◌, ◌≤◌, min}
use mathlib.Core.Path.{◌≡◌, refl, sym, ◌∙◌, ap, ap₂, subst}
use mathlib.Core.List.{List, [], ◌∷◌, ◌++◌, append_assoc, append-nil}
use native.Mathlib.Numerals.{add-one}
use native.Mathlib.Omega.{arith}
use mathlib.Core.Logic.{inl, inr}
use lib.Dec.{leb}
use borrow.Author.Tests.{leb-true, leb-false}
use lib.ListN.{length, get_or, take, drop, replicate}
use lib.ListN.{take-append-drop, length-append, length-drop, length-replicate, replicate-append-replicate}
use lib.Seq.{set_split, drop-drop, take_at, drop_at, take_all, length-take-le, append_snoc, take-suc}
use Rattle.sets.proofs.Truth.{decided}
use Rattle.expression.specs.Words.{cube_words, cubes_of, Put, Placed, Appends, fitting, blanks, Front}
use Rattle.expression.specs.Expression.{sort}
use Rattle.expression.proofs.{Words.zeros, Sorting.sort-length}

-- ---- a list with another over it, from a place on

module _ {A : Type 0} where
  abbrev over : List A → ℕ → List A → List A
  over f a g = take a f ++ (g ++ drop (length g) (drop a f))

  module _ (f : List A) (a : ℕ) (h : a ≤ length f) where
    -- what stands before it
    over-before : (g : List A) → take a (over f a g) ≡ take a f
    over-before g = take_at (take a f) _ a (length-take-le a f h)

    past : (g : List A) → drop a (over f a g) ≡ g ++ drop (length g) (drop a f)
    past g = drop_at (take a f) _ a (length-take-le a f h)

    over-own : (g : List A) → take (length g) (drop a (over f a g)) ≡ g
    over-own g = ap (take (length g)) (past g) ∙ take_at g _ (length g) refl

    over-after : (g : List A) → drop (a + length g) (over f a g) ≡ drop (a + length g) f
    over-after g = sym (drop-drop (length g) a (over f a g)) ∙ ap (drop (length g)) (past g) ∙ drop_at g _ (length g) refl ∙ drop-drop (length g) a f

    -- another over it that is no shorter
    over-over : (g k : List A) → length g ≤ length k → over (over f a g) a k ≡ over f a k
    over-over g k l =
        let e : length g + (length k - length g) ≡ length k = omega arith in
        ap₂ (λ x y. x ++ (k ++ y)) (over-before g) (ap (drop (length k)) (past g) ∙ ap (λ n. drop n (g ++ drop (length g) (drop a f))) (sym e)
        ∙ sym (drop-drop (length k - length g) (length g) _) ∙ ap (drop (length k - length g)) (drop_at g _ (length g) refl)
        ∙ drop-drop (length k - length g) (length g) (drop a f) ∙ ap (λ n. drop n (drop a f)) e)

  module _ (f g : List A) (a : ℕ) (fits : a + length g ≤ length f) where
    front_length : length (take a f ++ g) ≡ a + length g
    front_length = length-append (take a f) g ∙ rw (length-take-le a f (omega arith))

    over-length : length (over f a g) ≡ length f
    over-length =
        length-append (take a f) _ ∙ ap (length (take a f) +◌) (length-append g _)
        ∙ omega (arith, length-take-le a f (omega arith), length-drop (length g) (drop a f), length-drop a f)

    -- k after g
    over-then : (k : List A) → over (over f a g) (a + length g) k ≡ over f a (g ++ k)
    over-then k =
        let rest = drop (length g) (drop a f) in
        rw (
          ← (append_assoc (take a f) g rest),
          take_at (take a f ++ g) rest (a + length g) front_length,
          drop_at (take a f ++ g) rest (a + length g) front_length,
          drop-drop (length k) (length g) (drop a f),
          length-append g k,
        )
        (simp append_assoc)

-- ---- cubes placed

pub placed-none : (ws : List ℕ) (a : ℕ) → Placed ws ws a []
placed-none ws a = record { cubes = sym (take-append-drop a (cubes_of ws)); spare = refl }

-- the same cubes by another name
pub placed-as : {old new : List ℕ} {a : ℕ} {f g : List (List ℕ)} → f ≡ g → Placed old new a f → Placed old new a g
placed-as {old} {new} {a} e p = subst (Placed old new a) e p

-- one cube
pub put-placed : {old new : List ℕ} {a : ℕ} {c : List ℕ} → a < length (cubes_of old) → Put old new a c → Placed old new a (c ∷ [])
put-placed {old} {a = a} {c} h p = record {
  cubes = p.cubes ∙ set_split (cubes_of old) a c h ∙ rw (drop-drop 1 a (cubes_of old), add-one a);
  spare = p.spare;
}

module _ {old new : List ℕ} {a : ℕ} {f : List (List ℕ)} (p : Placed old new a f) where
  -- what stands before, there and after
  module _ (h : a ≤ length (cubes_of old)) where
    pub placed-before : take a (cubes_of new) ≡ take a (cubes_of old)
    placed-before = ap (take a) p.cubes ∙ over-before (cubes_of old) a h f

    pub placed-own : take (length f) (drop a (cubes_of new)) ≡ f
    placed-own = ap (λ l. take (length f) (drop a l)) p.cubes ∙ over-own (cubes_of old) a h f

    pub placed-after : drop (a + length f) (cubes_of new) ≡ drop (a + length f) (cubes_of old)
    placed-after = ap (drop (a + length f)) p.cubes ∙ over-after (cubes_of old) a h f

    -- as the part from a up to e
    pub placed-span : {e : ℕ} → e ≡ a + length f → take (e - a) (drop a (cubes_of new)) ≡ f
    placed-span {e} q = let z : e - a ≡ length f = omega arith in ap (λ n. take n (drop a (cubes_of new))) z ∙ placed-own

    -- others put in the same places, no fewer
    pub placed-over : {next : List ℕ} {g : List (List ℕ)} → length f ≤ length g → Placed new next a g → Placed old next a g
    placed-over {g = g} l q = record {
      cubes = q.cubes ∙ ap (λ x. over x a g) p.cubes ∙ over-over (cubes_of old) a h f g l;
      spare = q.spare ∙ p.spare;
    }

    -- what an operation makes of the part
    pub placed-op : (op : List (List ℕ) → List (List ℕ)) {next : List ℕ} {e : ℕ} → e ≡ a + length f
        → Placed new next a (op (take (e - a) (drop a (cubes_of new)))) → Placed new next a (op f)
    placed-op op q w = placed-as (ap op (placed-span q)) w

    -- the part put in cube order
    pub placed-sort : {next : List ℕ} {e : ℕ} → e ≡ a + length f → Placed new next a (sort (take (e - a) (drop a (cubes_of new)))) → Placed old next a (sort f)
    placed-sort q w = placed-over (omega (arith, sort-length f)) (placed-op sort q w)

  module _ (fits : a + length f ≤ length (cubes_of old)) where
    pub placed-length : length (cubes_of new) ≡ length (cubes_of old)
    placed-length = ap length p.cubes ∙ over-length (cubes_of old) f a fits

    -- g after f
    pub placed-then : {next : List ℕ} {g : List (List ℕ)} → Placed new next (a + length f) g → Placed old next a (f ++ g)
    placed-then {g = g} q = record {
      cubes = q.cubes ∙ ap (λ x. over x (a + length f) g) p.cubes ∙ over-then (cubes_of old) f a fits g;
      spare = q.spare ∙ p.spare;
    }

  -- one cube after f
  pub placed-more : {next : List ℕ} {c : List ℕ} → a + length f < length (cubes_of old) → Put new next (a + length f) c → Placed old next a (f ++ (c ∷ []))
  placed-more fits q = placed-then (omega arith) (put-placed (omega (arith, placed-length (omega arith))) q)

-- where there is room for all of them, none is left out
pub placed-fitting : {old new : List ℕ} {a : ℕ} (f : List (List ℕ)) → a + length f ≤ length (cubes_of old) → Placed old new a (fitting old a f)
    → Placed old new a f
placed-fitting {old} {a = a} f h p = placed-as (take_all (length (cubes_of old) - a) f (omega arith)) p

pub placed-blanks : {old new : List ℕ} {a e : ℕ} → e ≤ length (cubes_of old) → Placed old new a (blanks old a e) → Placed old new a (replicate (e - a) [])
placed-blanks {old} {a = a} {e} h p = let z : min e (length (cubes_of old)) ≡ e = omega arith in placed-as (ap (λ n. replicate (n - a) []) z) p

-- ---- copied or cleared one by one

-- one place more is cleared
pub cleared-next : {old new next : List ℕ} {a i : ℕ} → a ≤ i → i < length (cubes_of old) → Placed old new a (replicate (i - a) []) → Put new next i []
    → Placed old next a (replicate (i + 1 - a) [])
cleared-next {new = new} {next} {a} {i} h k p q =
    let l : length (replicate {A = List ℕ} (i - a) []) ≡ i - a = length-replicate (i - a) [] in
    let e : i ≡ a + length (replicate {A = List ℕ} (i - a) []) = omega arith in
    let z : (i - a) + 1 ≡ i + 1 - a = omega arith in
    placed-as (replicate-append-replicate (i - a) 1 [] ∙ ap (λ n. replicate n []) z) (placed-more p (omega arith) (subst (λ n. Put new next n []) e q))

-- one cube more of those that are copied
pub copied_next : {old new next : List ℕ} {a i : ℕ} {c : List ℕ} (f : List (List ℕ)) → i < length f → a + i < length (cubes_of old)
    → Placed old new a (take i f) → c ≡ get_or f i [] → Put new next (a + i) c → Placed old next a (take (i + 1) f)
copied_next {new = new} {next} {a} {i} {c} f h k p e q =
    let l : length (take i f) ≡ i = length-take-le i f (omega arith) in
    let z : a + i ≡ a + length (take i f) = omega arith in
    placed-as (ap (λ x. take i f ++ (x ∷ [])) e ∙ sym (ap (λ n. take n f) (add-one i) ∙ take-suc f i [] h))
    (placed-more p (omega arith) (subst (λ n. Put new next n c) z q))

-- as many as there are, or as there are places for
pub copied_all : (f : List (List ℕ)) (n k : ℕ) → n ≡ min (length f) k → take n f ≡ take k f
copied_all f n k e = elim (decided (leb (length f) k)) [
  | inl t ↦ let h = leb-true (length f) k t in take_all n f (omega arith) ∙ sym (take_all k f h)
  | inr t ↦ let z : n ≡ k = omega (arith, leb-false (length f) k t) in rw z
]

-- ---- the place after them

pub appends-none : (ws : List ℕ) (a : ℕ) → Appends ws ws a [] a
appends-none ws a = record { next = omega arith; placed = placed-none ws a }

pub appends-one : {old new : List ℕ} {a : ℕ} {c : List ℕ} → a < length (cubes_of old) → Put old new a c → Appends old new a (c ∷ []) (a + 1)
appends-one h p = record { next = refl; placed = put-placed h p }

pub appends-as : {old new : List ℕ} {a r : ℕ} {f g : List (List ℕ)} → f ≡ g → Appends old new a f r → Appends old new a g r
appends-as {old} {new} {a} {r} e p = subst (λ x. Appends old new a x r) e p

module _ {old new : List ℕ} {a r : ℕ} {f : List (List ℕ)} (p : Appends old new a f r) where
  pub appends-then : {next : List ℕ} {s : ℕ} {g : List (List ℕ)} → r ≤ length (cubes_of old) → Appends new next r g s → Appends old next a (f ++ g) s
  appends-then {next} {g = g} h q = record {
    next = omega (arith, p.next, q.next, length-append f g);
    placed = placed-then p.placed (omega (arith, p.next)) (subst (λ k. Placed new next k g) p.next q.placed);
  }

  pub appends-put : {next : List ℕ} {c : List ℕ} → r < length (cubes_of old) → Put new next r c → Appends old next a (f ++ (c ∷ [])) (r + 1)
  appends-put h q = appends-then (omega arith) (appends-one (omega (arith, p.next, placed-length p.placed (omega (arith, p.next)))) q)

  pub appends-sort : {next : List ℕ} → a ≤ length (cubes_of old) → Placed new next a (sort (take (r - a) (drop a (cubes_of new)))) → Appends old next a (sort f) r
  appends-sort h w = record { next = p.next ∙ ap (a +◌) (sym (sort-length f)); placed = placed-sort p.placed h p.next w }

-- ---- cubes put in turn, while those to come are known

-- of the cubes `whole`, put from place a on, those before place n stand, and `rest` is still to come
pub record Going (old new : List ℕ) (a n : ℕ) (rest whole : List (List ℕ)) : Type 0 where
  pub done : List (List ℕ)
  pub stand : Appends old new a done n
  pub sum : done ++ rest ≡ whole
  pub room : a + length whole ≤ length (cubes_of old)

pub going-first : (ws : List ℕ) (a : ℕ) (whole : List (List ℕ)) → a + length whole ≤ length (cubes_of ws) → Going ws ws a a whole whole
going-first ws a whole h = record { done = []; stand = appends-none ws a; sum = refl; room = h }

module _ {old new : List ℕ} {a n : ℕ} {whole : List (List ℕ)} where
  -- there is a place for each cube to come
  pub going-inside : {rest : List (List ℕ)} → Going old new a n rest whole → n + length rest ≤ length (cubes_of old)
  going-inside {rest} g = omega (arith, g.room, g.stand.next, ap length g.sum, length-append g.done rest)

  pub going_next : {next : List ℕ} {c : List ℕ} {rest : List (List ℕ)} → Going old new a n (c ∷ rest) whole → Put new next n c
      → Going old next a (n + 1) rest whole
  going_next {c = c} {rest} g p = record {
    done = g.done ++ (c ∷ []);
    stand = appends-put g.stand (omega (arith, going-inside g)) p;
    sum = append_snoc g.done c rest ∙ g.sum;
    room = g.room;
  }

  pub going_end : Going old new a n [] whole → Appends old new a whole n
  going_end g = appends-as (sym (append-nil g.done) ∙ g.sum) g.stand

-- ---- words filled from the front

pub front-none : (n : ℕ) → Front (replicate (cube_words * n) 0) n []
front-none n = let e : n ≡ n - 0 = omega arith in record { few = omega arith; cubes = zeros n ∙ ap (λ k. replicate k []) e }

module _ {ws : List ℕ} {n : ℕ} {f : List (List ℕ)} (p : Front ws n f) where
  pub front-places : length (cubes_of ws) ≡ n
  front-places = ap length p.cubes ∙ length-append f _ ∙ omega (arith, p.few, length-replicate {A = List ℕ} (n - length f) [])

  pub front-own : take (length f) (cubes_of ws) ≡ f
  front-own = ap (take (length f)) p.cubes ∙ take_at f _ (length f) refl

  pub front_rest : drop (length f) (cubes_of ws) ≡ replicate (n - length f) []
  front_rest = ap (drop (length f)) p.cubes ∙ drop_at f _ (length f) refl

  -- more cubes after those
  pub front-then : {new : List ℕ} {g : List (List ℕ)} → length f + length g ≤ n → Placed ws new (length f) g → Front new n (f ++ g)
  front-then {g = g} h q = record {
    few = omega (arith, length-append f g);
    cubes =
        let e : n - length f ≡ length g + (n - length (f ++ g)) = omega (arith, length-append f g) in
        q.cubes
        ∙ ap₂ (λ x y. x ++ (g ++ drop (length g) y)) front-own (front_rest ∙ ap (λ k. replicate k []) e ∙ sym (replicate-append-replicate (length g) _ []))
        ∙ ap (λ x. f ++ (g ++ x)) (drop_at (replicate (length g) []) _ (length g) (length-replicate (length g) []))
        ∙ sym (append_assoc f g _);
  }
