-- What the divisors of a list read, and what is reached from a list of variables by reading so many times over. Assumes nothing.
use Prim.Native.Nat.{ℕ, zero, suc, ◌+◌, ◌/◌, ◌%◌}
use mathlib.Core.Path.{◌≡◌, refl, sym, ap, ap₂, ◌∙◌, subst}
use mathlib.Core.Logic.{inl, inr}
use mathlib.Core.Bool.{Bool, true, false, cond, ◌&&◌, ◌||◌}
use mathlib.Core.List.Memᴰ
use mathlib.Core.List.Memᴰ.{head as here}
use mathlib.Core.List.Memᴰ.{tail as there}
use mathlib.Core.List.{List, [], ◌∷◌}
use native.Mathlib.Numerals.{add-one}
use lib.Dec.{eqb}
use borrow.Author.Tests.{eqb-true}
use Rattle.sets.specs.{Lists.any, Sets.mem, Sets.union}
use Rattle.sets.proofs.Truth.{iff, both, together, either, or_left, or_right, clash, decided}
use Rattle.sets.proofs.Lists.{◌∈◌, any-in, any_out}
use Rattle.sets.proofs.Sets.{mem-of, of_mem, union-mem, nil-mem}
use Rattle.network.specs.Net.{Node, Net, cubes_at}
use Rattle.network.{specs.Meaning.Reads, specs.Meaning.Distinct, proofs.Numbering.cubes-at}
use Rattle.network_reads.{specs.Reading.reads_of, specs.Reading.Marks, proofs.Marking.Gathers, proofs.Reading.reads_in, proofs.Reading.reads-out}
use Rattle.network_hangs.specs.{Hangs.read_by, Hangs.reached, Parts.read_if, Parts.Makes}

-- ---- what the divisors among a list's variables read

module _ (n : Net) where
  pub by_in : {u : ℕ} {l : List ℕ} (v : ℕ) → u ∈ l → Reads (cubes_at u n.divisors) v → mem v (read_by n l) ≡ true
  unfolding read_by
  by_in {u} v (here {x = x} {xs = l} e) r =
      union-mem v (reads_of (cubes_at x n.divisors)) (read_by n l)
      ∙ or_left _ _ (reads_in (cubes_at x n.divisors) v (subst (λ (y : ℕ). Reads (cubes_at y n.divisors) v) e r))
  by_in {u} v (there {x = x} {xs = l} m) r = union-mem v (reads_of (cubes_at x n.divisors)) (read_by n l)
      ∙ or_right (mem v (reads_of (cubes_at x n.divisors))) _ (by_in v m r)

  pub by_out : (l : List ℕ) (v : ℕ) → mem v (read_by n l) ≡ true → (u : ℕ) × (u ∈ l) × Reads (cubes_at u n.divisors) v
  unfolding read_by mem
  by_out [] v h = clash h refl
  by_out (x ∷ l) v h = elim (either (mem v (reads_of (cubes_at x n.divisors))) (mem v (read_by n l))
      (sym (union-mem v (reads_of (cubes_at x n.divisors)) (read_by n l)) ∙ h)) [
        | inl t ↦ (x, here refl, reads-out (cubes_at x n.divisors) v t)
        | inr t ↦ let r = by_out l v t in (r.0, there r.1, r.2)
      ]

  -- a number whose expression reads something is that of a divisor
  pub reads-divisor : (u v : ℕ) → Reads (cubes_at u n.divisors) v → (e : Node) × (e ∈ n.divisors) × (u ≡ e.number) × Reads e.cubes v
  unfolding cubes_at
  reads-divisor u v r = go n.divisors r
    where
      go : (l : List Node) → Reads (cubes_at u l) v → (e : Node) × (e ∈ l) × (u ≡ e.number) × Reads e.cubes v
      go [] (c, m, q) = absurd (Memᴰ.not-nil m)
      go (e ∷ l) r = elim (decided (eqb u e.number)) [
        | inl t ↦ (e, here refl, eqb-true u e.number t, rw t at r)
        | inr t ↦ let q = go l (rw t at r) in (q.0, there q.1, q.2, q.3)
      ]

-- a divisor is among the variables of l and reads v
abbrev pub asks : List ℕ → ℕ → Node → Bool
asks l v e = mem e.number l && mem v (reads_of e.cubes)

-- divisor by divisor
pub by-divisors : (n : Net) → Distinct n → (l : List ℕ) (v : ℕ) → mem v (read_by n l) ≡ any (asks l v) n.divisors
by-divisors n d l v = iff into back
  where
    into : mem v (read_by n l) ≡ true → any (asks l v) n.divisors ≡ true
    into h =
        let r = by_out n l v h in
        let q = reads-divisor n r.0 v r.2 in
        any-in (asks l v) q.1 (together _ _ (ap (λ x. mem x l) (sym q.2) ∙ mem-of r.1) (reads_in q.0.cubes v q.3))

    back : any (asks l v) n.divisors ≡ true → mem v (read_by n l) ≡ true
    back h =
        let r = any_out (asks l v) n.divisors h in
        let e = r.0 in
        let q = both (mem e.number l) (mem v (reads_of e.cubes)) r.2 in
        by_in n v (of_mem e.number l q.0) (rw (cubes-at n d r.1) (reads-out e.cubes v q.1))

-- those of all divisors, and those of the first and of the rest
pub asks-first : (n : Net) → Distinct n → {set : List ℕ} (l : List ℕ) → Marks set l
    → Gathers set (λ v. any (asks l v) n.divisors) (λ v. mem v (union l (read_by n l)))
asks-first n d {set} l p = record {
  each = λ x.
      ap₂ (λ (a b : Bool). a || (eqb (x % 2) 0 && b)) (p.each x) (sym (by-divisors n d l (x / 2)))
      ∙ turn (eqb (x % 2) 0) (mem (x / 2) l) (mem (x / 2) (read_by n l))
      ∙ ap (eqb (x % 2) 0 &&◌) (sym (union-mem (x / 2) l (read_by n l)));
}
  where
    turn : (b a c : Bool) → ((b && a) || (b && c)) ≡ (b && (a || c))
    turn true a c = refl
    turn false a c = refl

pub asks-next : (l : List ℕ) {ds rest : List Node} {e : Node} → ds ≡ e ∷ rest → (v : ℕ)
    → any (asks l v) ds ≡ (mem v (read_if e.number e.cubes l) || any (asks l v) rest)
asks-next l {ds} {rest} {e} q v = ap (any (asks l v)) q ∙ ap (◌|| any (asks l v) rest) (pick (mem e.number l))
  where
    pick : (b : Bool) → (b && mem v (reads_of e.cubes)) ≡ mem v (cond b (reads_of e.cubes) [])
    pick true = refl
    pick false = sym (nil-mem [] refl v)

-- ---- so many times over

module _ (n : Net) where
  pub reached-last : (k : ℕ) (l : List ℕ) → reached (suc k) n l ≡ union (reached k n l) (read_by n (reached k n l))
  unfolding reached
  reached-last zero l = refl
  reached-last (suc k) l = reached-last k (union l (read_by n l))

  -- from nothing nothing is reached
  pub reached-none : (k : ℕ) → reached k n [] ≡ []
  unfolding reached union read_by
  reached-none zero = refl
  reached-none (suc k) = reached-none k

-- the sets of what is reached, turn by turn
pub makes-first : (n : Net) (set : List ℕ) → Makes set set (reached 0 n)
unfolding reached
makes-first n set = record { each = λ l p. p }

pub makes-more : (n : Net) {set all r : List ℕ} (i : ℕ) → Makes set all (reached i n) → Makes all r (λ l. union l (read_by n l))
    → Makes set r (reached (i + 1) n)
makes-more n i p q = record {
  each = λ l t. rw (add-one i, reached-last n i l) (q.each (reached i n l) (p.each l t));
}
