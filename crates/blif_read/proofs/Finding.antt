-- Blocks passed one after the other: those passed define other names, and the first of those that are left is the block that is read, so that where the
-- name stands is found. Assumes nothing.
use Rattle.std.specs.Prelude.{Option, Some, None}
use Prim.Native.Nat.{ℕ, ◌≤◌}
use mathlib.Core.Path.{◌≡◌, refl, sym, ap, ◌∙◌, subst}
use mathlib.Core.List.Memᴰ
use mathlib.Core.{Logic.inl, Logic.inr}
use mathlib.Core.List.Memᴰ.{head as here}
use mathlib.Core.List.{List, [], ◌∷◌, ◌++◌}
use Rattle.sets.{specs.Word.largest, proofs.Lists.◌∈◌}
use Rattle.blif_laws.specs.Text.{Name, Block}
use Rattle.blif_scan.specs.Scanning.{left, label_of}
use Rattle.blif_form.specs.Surveying.{BeginsAt, BlockOf, BlocksOf, SmallBlocks}
use Rattle.blif_read.specs.Defining.{FirstIs, PassedGot, PassedNot}
use Rattle.blif_read.specs.Building.{StandsAt, FoundIs}
use Rattle.blif_scan.specs.declared.Label.{Label}
use Rattle.blif_read.specs.declared.defining.Passed.{Passed}
use Rattle.blif_form.proofs.Blocking.{block-begins, blocks-first}
use Rattle.blif_read.proofs.Counting.{Partway, partway-first, partway-one, partway-next, partway-done}

-- names are told apart by what they are
pub label-one : (a b : Label) → label_of a ≡ label_of b → a ≡ b
label-one (Label.Variable v) (Label.Variable u) e = cc
label-one (Label.Variable v) (Label.Output j) e = absurd (cc)
label-one (Label.Output i) (Label.Variable u) e = absurd (cc)
label-one (Label.Output i) (Label.Output j) e = cc

-- none of the blocks passed defines the name
pub record Left (s : List ℕ) (at m : ℕ) (a : Name) (bs : List Block) : Type 0 where
  pub done : List Block
  pub place : Partway s at m bs done
  pub others : (b : Block) → b ∈ done → a ≡ b.name → ⊥

pub left-first : {s : List ℕ} {at m : ℕ} {a : Name} {bs : List Block} → BlocksOf (left s at) m bs → SmallBlocks bs → Left s at m a bs
left-first h k = record { done = []; place = partway-first h k; others = λ b m e. Memᴰ.not-nil m }

module _ {s : List ℕ} {at m : ℕ} {a : Name} {bs : List Block} (h : m ≤ largest) (l : Left s at m a bs) where
  pub left-none : {old new : List ℕ} → PassedNot s at old new → (b : Block) → b ∈ bs → a ≡ b.name → ⊥
  left-none n b i e = l.others b (subst (b ∈◌) (partway-done h l.place n) i) e

  module _ {base : ℕ} {old new : List ℕ} {r : Passed} (g : PassedGot s at base old new r) where
    pub left-next : (a ≡ label_of r.name → ⊥) → Left s r.next m a bs
    left-next n =
        let w = partway-next h l.place g in
        record {
          done = l.done ++ (w.0 ∷ []);
          place = w.3;
          others = λ c i q. elim (Memᴰ.append_cases l.done i) [
            | inl j ↦ l.others c j q
            | inr j ↦ n (q ∙ ap (λ (x : Block). x.name) (Memᴰ.eq_of_singleton j) ∙ sym w.1)
          ];
        }

    -- the block there defines the name
    pub left_here : {p : ℕ} → a ≡ label_of r.name → BeginsAt s at (Some p) → StandsAt s m bs a p
    left_here {p} n d = go l.place.rest l.place.whole l.place.blocks (partway-one h l.place g)
      where
        go : (k : List Block) → bs ≡ l.done ++ k → BlocksOf (left s at) m k → FirstIs s base old new r m k → StandsAt s m bs a p
        go [] e b f = absurd f
        go (c ∷ k) e b f = let q = blocks-first c k b in record {
          block = c;
          inside = subst (c ∈◌) (sym e) (Memᴰ.append_right l.done (here refl));
          name = n ∙ f.name;
          more = q.0;
          is = subst (λ t. BlockOf t m c q.0) d.0 q.1;
        }

    -- and it begins as blocks do
    pub left-begins : BeginsAt s at None → ⊥
    left-begins n = go l.place.rest l.place.blocks (partway-one h l.place g)
      where
        go : (k : List Block) → BlocksOf (left s at) m k → FirstIs s base old new r m k → ⊥
        go [] b f = f
        go (c ∷ k) b f = let u = block-begins (blocks-first c k b).1 in n u.0 u.1

-- where the block that defines the name stands
pub found_here : {s : List ℕ} {at base : ℕ} {old new : List ℕ} {r : Passed} (first : ℕ) (a : Label) (q : Option ℕ) → PassedGot s at base old new r
    → label_of a ≡ label_of r.name → BeginsAt s at q
    → ((m : ℕ) (bs : List Block) → m ≤ largest → BlocksOf (left s first) m bs → SmallBlocks bs → Left s at m (label_of a) bs) → FoundIs s first a q
found_here first a (Some p) g e d l = λ m bs h b k. left_here h (l m bs h b k) g e d
found_here first a None g e d l = λ m bs h b k c i n. left-begins h (l m bs h b k) g d
