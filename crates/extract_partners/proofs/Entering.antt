-- A removal more in the chains. Assumes nothing.
use Prim.Native.Nat.{ℕ, suc, ◌+◌, ◌%◌, ◌<◌, ◌≤◌}
use mathlib.Core.Path.{◌≡◌, sym, ◌∙◌}
use mathlib.Core.List.{List}
use native.Mathlib.Omega.{arith}
use lib.ListN.{get_or, set, length-set}
use lib.Seq.{get_or-set_same, get_or-set_other}
use borrow.Author.Tests.{eq-eqb, ne_eqb}
use Rattle.sets.proofs.Truth.{Stand, below, equal, beyond, compared}
use Rattle.extract_partners.specs.Table.{first, place_of, link_at, code_at, newest, Chained, Enters}
use Rattle.extract_partners.proofs.Chains.{newest-same}

-- the link, the code and the head, written one after the other
abbrev linked : List ℕ → ℕ → ℕ → List ℕ
linked r e h = set r (place_of e) (get_or r h 0)

abbrev coded : List ℕ → ℕ → ℕ → ℕ → List ℕ
coded r e h code = set (linked r e h) (place_of e + 1) code

abbrev pub grown : List ℕ → ℕ → ℕ → ℕ → List ℕ
grown r e h code = set (coded r e h code) h (place_of e)

module _ (r : List ℕ) (e h code : ℕ) (s : Chained r e) (b : e < 16384) (to : h < first) (q : code % first ≡ h) where
  u : List ℕ
  u = grown r e h code

  others : (i : ℕ) → (i ≡ h → ⊥) → (i ≡ place_of e → ⊥) → (i ≡ place_of e + 1 → ⊥) → get_or u i 0 ≡ get_or r i 0
  unfolding u
  others i x y z =
      get_or-set_other (coded r e h code) h i (place_of e) 0 x
      ∙ get_or-set_other (linked r e h) (place_of e + 1) i code 0 z
      ∙ get_or-set_other r (place_of e) i (get_or r h 0) 0 y

  head-new : get_or u h 0 ≡ place_of e
  unfolding u
  head-new = get_or-set_same (coded r e h code) h (place_of e) 0 (simp length-set (omega (arith, s.long)))

  code-new : code_at u e ≡ code
  unfolding u
  code-new =
      get_or-set_other (coded r e h code) h (place_of e + 1) (place_of e) 0 (λ x. omega arith)
      ∙ get_or-set_same (linked r e h) (place_of e + 1) code 0 (simp length-set (omega (arith, s.long)))

  link-new : link_at u e ≡ get_or r h 0
  unfolding u
  link-new =
      get_or-set_other (coded r e h code) h (place_of e) (place_of e) 0 (λ x. omega arith)
      ∙ get_or-set_other (linked r e h) (place_of e + 1) (place_of e) code 0 (λ x. omega arith)
      ∙ get_or-set_same r (place_of e) (get_or r h 0) 0 (omega (arith, s.long))

  codes : (d : ℕ) → d < e → code_at u d ≡ code_at r d
  codes d l = others (place_of d + 1) (λ x. omega arith) (λ x. omega arith) (λ x. omega arith)

  -- the newest of the first ones are as they were
  newest-old : (x d : ℕ) → d ≤ e → newest u x d ≡ newest r x d
  newest-old x d l = newest-same r u x d (λ c i. codes c (omega arith))

  heads : (x : ℕ) → x < first → Stand x h → get_or u x 0 ≡ newest u x (suc e)
  unfolding newest
  heads x l (equal k _ _) = rw (k, code-new, q, eq-eqb h h (omega arith)) head-new
  heads x l (below k _ _) = rw (code-new, q, ne_eqb h x (omega arith))
      (others x (λ i. omega arith) (λ i. omega arith) (λ i. omega arith) ∙ s.heads x l ∙ sym (newest-old x e (omega arith)))
  heads x l (beyond k _ _) = rw (code-new, q, ne_eqb h x (omega arith))
      (others x (λ i. omega arith) (λ i. omega arith) (λ i. omega arith) ∙ s.heads x l ∙ sym (newest-old x e (omega arith)))

  links : (d : ℕ) → d < suc e → Stand d e → link_at u d ≡ newest u (code_at u d % first) d
  links d l (equal k _ _) =
      rw (k, code-new, q) (link-new ∙ s.heads h to ∙ sym (newest-old h e (omega arith)))
  links d l (below k _ _) =
      rw (codes d k) (others (place_of d) (λ i. omega arith) (λ i. omega arith) (λ i. omega arith) ∙ s.links d k
      ∙ sym (newest-old (code_at r d % first) d (omega arith)))
  links d l (beyond k _ _) = absurd (omega arith)

  pub grown-enters : Enters r (grown r e h code) e code
  unfolding u
  grown-enters = record {
    chained = record {
      long = simp length-set s.long;
      heads = λ x l. heads x l (compared x h);
      links = λ d l. links d l (compared d e);
    };
    old = codes;
    new = code-new;
  }
