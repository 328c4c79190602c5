-- Blocks passed one by one: what one pass answers, and that those before a place are counted, those from there on left. Assumes nothing.
use Rattle.std.specs.Prelude.{Some, None}
use Prim.Native.Nat.{ℕ, ◌≤◌}
use mathlib.Core.Path.{◌≡◌, refl, sym, ap, ◌∙◌, subst}
use mathlib.Core.List.{List, [], ◌∷◌, ◌++◌, map, append-nil, append_assoc, map-append}
use Rattle.sets.{specs.Word.largest}
use Rattle.network.{specs.Handed.flat, proofs.Handing.flat-last}
use Rattle.blif_laws.specs.{Text.Block, Reading.named_in}
use Rattle.blif_scan.specs.Scanning.{left, label_of}
use Rattle.blif_lines.{specs.Marking.Raised, specs.declared.Names.Names, specs.declared.Rows.Rows, proofs.Marking.raised-none, proofs.Marking.raised-on}
use Rattle.blif_form.{specs.Surveying.BeginsAt, specs.Surveying.BlocksOf, specs.Surveying.SmallBlocks, proofs.Blocking.small-others}
use Rattle.blif_read.specs.Defining.{FirstIs, PassedGot, PassedNot}
use Rattle.blif_lines.specs.Lining.{NamesGot, NamesNot, RowsGot, RowsNot}
use Rattle.blif_read.specs.declared.defining.Passed.{Passed}
use Rattle.blif_form.proofs.Passing.{pass-none, pass-some, pass-unnamed, pass-rowless, pass-forth, pass-name, pass-numbers, pass-rest}

-- ---- one pass

module _ (s : List ℕ) (at base : ℕ) (old : List ℕ) where
  -- no block is left
  pub passed-end : BeginsAt s at None → PassedNot s at old old
  passed-end h = record { size = refl; none = λ m bs l k f. (pass-none s at h m bs k, refl) }

  module _ (p : ℕ) (h : BeginsAt s at (Some p)) where
    pub passed-unnamed : {new : List ℕ} → NamesNot s p old new → PassedNot s at old new
    passed-unnamed n = record { size = n.size; none = λ m bs l k f. absurd (pass-unnamed s at p h.0 n m bs l k f) }

    module _ {new : List ℕ} {r : Names} (g : NamesGot s p base old new r) {o w : List ℕ} where
      pub passed-rowless : RowsNot s r.next r.reads o w → PassedNot s at old new
      passed-rowless n = record { size = g.marks.size; none = λ m bs l k f. absurd (pass-rowless s at p h.0 g n m bs k) }

      pub passed-one : {x : Rows} → RowsGot s r.next r.reads 0 o w x → PassedGot s at base old new (record { name = r.name; next = x.next })
      passed-one {x} y = record { forth = pass-forth s at p h.0 g y h.1; size = g.marks.size; first = each }
        where
          each : (m : ℕ) (bs : List Block) → m ≤ largest → BlocksOf (left s at) m bs → SmallBlocks bs
              → FirstIs s base old new (record { name = r.name; next = x.next }) m bs
          each m [] l k f = pass-some s at p h.0 k
          each m (b ∷ bs) l k f = record {
            name = pass-name s at p h.0 g y b bs k;
            marks = subst (λ v. Raised base v old new) (pass-numbers s at p h.0 g y b bs k) g.marks;
            rest = pass-rest s at p h.0 g y b bs k;
          }

-- ---- all blocks

-- of the blocks bs those of `done` are passed, and the others are left from a place on
pub record Partway (s : List ℕ) (at m : ℕ) (bs done : List Block) : Type 0 where
  pub rest : List Block
  pub whole : bs ≡ done ++ rest
  pub blocks : BlocksOf (left s at) m rest
  pub small : SmallBlocks rest

pub partway-first : {s : List ℕ} {at m : ℕ} {bs : List Block} → BlocksOf (left s at) m bs → SmallBlocks bs → Partway s at m bs []
partway-first {bs = bs} b k = record { rest = bs; whole = refl; blocks = b; small = k }

module _ {s : List ℕ} {at m : ℕ} {bs done : List Block} (h : m ≤ largest) (x : Partway s at m bs done) where
  -- the block that is read is the first of those that are left
  pub partway-one : {base : ℕ} {old new : List ℕ} {r : Passed} → PassedGot s at base old new r → FirstIs s base old new r m x.rest
  partway-one g = g.first m x.rest h x.blocks x.small

  -- and is passed
  pub partway-next : {base : ℕ} {old new : List ℕ} {r : Passed} → PassedGot s at base old new r
      → (b : Block) × (label_of r.name ≡ b.name) × Raised base (named_in b) old new × Partway s r.next m bs (done ++ (b ∷ []))
  partway-next {base} {old} {new} {r} g = go x.rest x.whole x.small (partway-one g)
    where
      go : (k : List Block) → bs ≡ done ++ k → SmallBlocks k → FirstIs s base old new r m k
          → (b : Block) × (label_of r.name ≡ b.name) × Raised base (named_in b) old new × Partway s r.next m bs (done ++ (b ∷ []))
      go [] e d f = absurd f
      go (b ∷ k) e d f =
          (b, f.name, f.marks, record { rest = k; whole = e ∙ sym (append_assoc done (b ∷ []) k); blocks = f.rest; small = small-others b k d })

  -- no block is left
  pub partway-done : {old new : List ℕ} → PassedNot s at old new → bs ≡ done
  partway-done n = x.whole ∙ ap (done ++◌) (n.none m x.rest h x.blocks x.small).0 ∙ append-nil done

-- ---- what they count

-- the numbers that g takes of blocks
abbrev pub taken : (Block → List ℕ) → List Block → List ℕ
taken g bs = flat (map g bs)

-- the blocks that are passed are counted
pub record Tallied (s : List ℕ) (at m base : ℕ) (g : Block → List ℕ) (bs : List Block) (old new : List ℕ) : Type 0 where
  pub done : List Block
  pub place : Partway s at m bs done
  pub marks : Raised base (taken g done) old new

pub tally-first : {s : List ℕ} {at m : ℕ} {bs : List Block} (base : ℕ) (g : Block → List ℕ) (old : List ℕ) → BlocksOf (left s at) m bs → SmallBlocks bs
    → Tallied s at m base g bs old old
tally-first base g old b k = record { done = []; place = partway-first b k; marks = raised-none base old }

module _ {s : List ℕ} {at m base : ℕ} {g : Block → List ℕ} {bs : List Block} {old mid : List ℕ} (h : m ≤ largest) (x : Tallied s at m base g bs old mid) where
  -- one block more
  pub tally-next : {base' : ℕ} {new old' new' : List ℕ} {r : Passed} → PassedGot s at base' old' new' r
      → ((b : Block) → label_of r.name ≡ b.name → Raised base' (named_in b) old' new' → Raised base (g b) mid new)
      → Tallied s r.next m base g bs old new
  tally-next {new = new} q c =
      let n = partway-next h x.place q in
      let added = ap flat (map-append g x.done (n.0 ∷ [])) ∙ flat-last (map g x.done) (g n.0) in
      record {
        done = x.done ++ (n.0 ∷ []);
        place = n.3;
        marks = subst (λ l. Raised base l old new) (sym added) (raised-on x.marks (c n.0 n.1 n.2));
      }

  pub tally-done : {old' new' : List ℕ} → PassedNot s at old' new' → Raised base (taken g bs) old mid
  tally-done n = subst (λ l. Raised base (taken g l) old mid) (sym (partway-done h x.place n)) x.marks
