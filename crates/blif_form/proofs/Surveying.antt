-- One pass over a text: `.end` and the blocks before it, as the words that begin them tell, and the whole text with its head. Assumes nothing.
use Rattle.std.specs.Prelude.{Option, Some, None}
use Rattle.std.specs.Option.{is_some}
use Prim.Native.Nat.{ℕ, suc, ◌+◌, min, max}
use mathlib.Core.Path.{◌≡◌, refl, sym, ap, ap₂, ◌∙◌, subst}
use mathlib.Core.Logic.{◌⊎◌, inl, inr}
use mathlib.Core.Bool.{Bool, true, false, not}
use mathlib.Core.List.Memᴰ
use mathlib.Core.List.{List, [], ◌∷◌, ◌++◌, map, map-append, append-nil, append_assoc, append_cancel_left, append_cancel_right}
use native.Mathlib.Omega.{arith}
use lib.ListN.{length}
use Rattle.sets.proofs.Lists.{◌∈◌, total-append}
use Rattle.letters_products.specs.Spelled.{spelled}
use Rattle.network.{specs.Held.most_cubes, specs.Handed.flat, proofs.Handing.flat_append}
use Rattle.blif_laws.specs.{Text.Block, Text.ended, Reading.named_in}
use Rattle.blif_scan.specs.Scanning.{left, NextIs, by_line, by_end, EndedIs}
use Rattle.blif_scan.{proofs.Scanning.word-longer, specs.declared.Ended.Ended}
use Rattle.blif_lines.{specs.Lining.top_of, proofs.Lining.top-append}
use Rattle.blif_form.specs.Surveying.{BlockOf, BlockGot, BlockNot, EndingIs, BlocksOf, named_by, SmallBlocks, rows_by, BlocksGot, BlocksNot, BeginsAt}
use Rattle.blif_form.specs.declared.Found.{Found}
use Rattle.blif_form.proofs.Ending.{Closes}
use Rattle.blif_form.proofs.Blocking.{block-begins, block_one, blocks-first, blocks_more, small-first, small-others}
use Rattle.blif_form.proofs.Passing.{end-names}

-- two texts that go on in different ways after the same word
parted : (w t u : List ℕ) (x y : ℕ) → (x ≡ y → ⊥) → w ++ (x ∷ t) ≡ w ++ (y ∷ u) → ⊥
parted w t u x y h e = let q = append_cancel_left w (x ∷ t) (y ∷ u) e in h (cc)

-- ---- `.end`

-- the last line, with its LF or without
closes-end : (t w : List ℕ) → Closes t (w ∷ []) → (t ≡ w ++ (10 ∷ [])) ⊎ (t ≡ w)
unfolding ended
closes-end t w (inl c) = inl (c ∙ append-nil (w ++ (10 ∷ [])))
closes-end t w (inr c) = inr (append_cancel_right t w (10 ∷ []) (c ∙ append-nil (w ++ (10 ∷ []))))

end-closes : (t w : List ℕ) → (t ≡ w ++ (10 ∷ [])) ⊎ (t ≡ w) → Closes t (w ∷ [])
unfolding ended
end-closes t w (inl e) = inl (e ∙ sym (append-nil (w ++ (10 ∷ []))))
end-closes t w (inr e) = inr (ap (◌++ (10 ∷ [])) e ∙ sym (append-nil (w ++ (10 ∷ []))))

-- what ends the word here, and what comes after it
module _ (s : List ℕ) (at : ℕ) where
  pub end-space : (p : ℕ) → EndedIs s at (spelled ".end") (Some (Ended.Space p)) → EndingIs s at false
  end-space p h c = elim (closes-end (left s at) (spelled ".end") c) [
    | inl e ↦ parted (spelled ".end") [] (left s p) 10 32 (λ z. omega arith) (sym e ∙ h.0)
    | inr e ↦ word-longer (spelled ".end") 32 (left s p) (sym e ∙ h.0)
  ]

  pub end-byte : (p b q : ℕ) → EndedIs s at (spelled ".end") (Some (Ended.Line p)) → NextIs s p (Some (b, q)) → EndingIs s at false
  end-byte p b q h n c = elim (closes-end (left s at) (spelled ".end") c) [
    | inl e ↦
        let r : 10 ∷ [] ≡ 10 ∷ left s p = append_cancel_left (spelled ".end") (10 ∷ []) (10 ∷ left s p) (sym e ∙ h.0) in
        let f : [] ≡ b ∷ left s q = cc n.0 in
        let z : ◌≡◌ {A = ℕ} 0 1 = cc in
        omega arith
    | inr e ↦ word-longer (spelled ".end") 10 (left s p) (sym e ∙ h.0)
  ]

  pub end_line : (p : ℕ) → EndedIs s at (spelled ".end") (Some (Ended.Line p)) → NextIs s p None → EndingIs s at true
  end_line p h n = end-closes (left s at) (spelled ".end") (inl (h.0 ∙ ap (λ t. spelled ".end" ++ (10 ∷ t)) n))

  pub end-after : (p : ℕ) (n : Option (ℕ × ℕ)) (x : Bool) → is_some n ≡ not x → EndedIs s at (spelled ".end") (Some (Ended.Line p)) → NextIs s p n
      → EndingIs s at x
  end-after p (Some (b, q)) true t h n = absurd (cc)
  end-after p (Some (b, q)) false t h n = end-byte p b q h n
  end-after p None true t h n = end_line p h n
  end-after p None false t h n = absurd (cc)

  pub end-finish : EndedIs s at (spelled ".end") (Some Ended.Finish) → EndingIs s at true
  end-finish h = end-closes (left s at) (spelled ".end") (inr h)

  pub end-other : EndedIs s at (spelled ".end") None → EndingIs s at false
  end-other h c = elim (closes-end (left s at) (spelled ".end") c) [ inl e ↦ h (by_line [] e) | inr e ↦ h (by_end e) ]

-- ---- the blocks before it

named-append : (bs cs : List Block) → named_by (bs ++ cs) ≡ named_by bs ++ named_by cs
named-append bs cs = ap flat (map-append named_in bs cs) ∙ flat_append (map named_in bs) (map named_in cs)

-- blocks passed from one place to another: any that follow go on with them, and where none follow there are none
pub record Passed (s : List ℕ) (at m p r t : ℕ) : Type 0 where
  pub blocks : List Block
  pub whole : (bs : List Block) → BlocksOf (left s p) m bs → BlocksOf (left s at) m (blocks ++ bs)
  pub small : SmallBlocks blocks
  pub rows : r ≡ rows_by blocks
  pub top : t ≡ top_of (named_by blocks)
  pub none : BlocksNot s p m → BlocksNot s at m

pub passed_none : (s : List ℕ) (at m : ℕ) → Passed s at m at 0 0
passed_none s at m = record {
  blocks = [];
  whole = λ bs h. h;
  small = λ v i. absurd (Memᴰ.not-nil i);
  rows = refl;
  top = refl;
  none = λ h. h;
}

-- a block more
module _ {s : List ℕ} {at m p r t : ℕ} (a : Passed s at m p r t) (q : ℕ) (e : left s p ≡ spelled ".names " ++ left s q) (f : Found)
    (g : BlockGot s q m f) where
  abbrev last : List Block
  last = g.block ∷ []

  block_here : BlockOf (left s p) m g.block (left s f.next)
  block_here = subst (λ x. BlockOf x m g.block (left s f.next)) (sym e) g.is

  small-more : SmallBlocks (a.blocks ++ last)
  small-more v i = elim (Memᴰ.append_cases (named_by a.blocks) (subst (v ∈◌) (named-append a.blocks last) i)) [
    | inl j ↦ a.small v j
    | inr j ↦ g.small v (subst (v ∈◌) (append-nil (named_in g.block)) j)
  ]

  none_more : BlocksNot s f.next m → BlocksNot s p m
  none_more n = record { none = each }
    where
      each : (bs : List Block) → SmallBlocks bs → BlocksOf (left s p) m bs → ⊥
      each [] h b = end-names (left s p) (left s q) b.text e
      each (c ∷ bs) h b =
          let k = blocks-first c bs b in
          let o = block_one block_here k.1 in
          n.none bs (small-others c bs h) (subst (λ x. BlocksOf x m bs) (sym o.1) k.2)

  pub passed-more : (rows top : ℕ) → rows ≡ min (r + f.rows) (suc most_cubes) → top ≡ max t f.top → Passed s at m f.next rows top
  passed-more rows top x y = record {
    blocks = a.blocks ++ last;
    whole = λ bs h. subst (BlocksOf (left s at) m) (sym (append_assoc a.blocks last bs)) (a.whole (g.block ∷ bs) (blocks_more block_here h));
    small = small-more;
    rows = let z = total-append (λ (b : Block). length b.cubes) a.blocks last in omega (arith, a.rows, g.rows);
    top = y ∙ ap₂ max a.top (g.top ∙ ap top_of (sym (append-nil (named_in g.block))))
        ∙ sym (ap top_of (named-append a.blocks last) ∙ top-append (named_by a.blocks) (named_by last));
    none = λ n. a.none (none_more n);
  }

-- what follows the blocks passed is no block: `.end` tells
module _ {s : List ℕ} {at m p r t : ℕ} (a : Passed s at m p r t) where
  pub walked : EndingIs s p true → BlocksGot s at m (record { rows = r; top = t })
  walked c = record {
    blocks = a.blocks;
    are = subst (BlocksOf (left s at) m) (append-nil a.blocks) (a.whole [] (record { each = λ b i. absurd (Memᴰ.not-nil i); text = c }));
    small = a.small;
    rows = a.rows;
    top = a.top;
  }

  pub walked-endless : BeginsAt s p None → EndingIs s p false → BlocksNot s at m
  walked-endless n c = a.none (record { none = each })
    where
      each : (bs : List Block) → SmallBlocks bs → BlocksOf (left s p) m bs → ⊥
      each [] k b = c b.text
      each (d ∷ bs) k b = let u = block-begins (blocks-first d bs b).1 in n u.0 u.1

  -- nor is it one that is not in the form
  pub walked-not : (q : ℕ) → left s p ≡ spelled ".names " ++ left s q → BlockNot s q m → BlocksNot s at m
  walked-not q e n = a.none (record { none = each })
    where
      each : (bs : List Block) → SmallBlocks bs → BlocksOf (left s p) m bs → ⊥
      each [] k b = end-names (left s p) (left s q) b.text e
      each (d ∷ bs) k b =
          let f = blocks-first d bs b in
          n.none d f.0 (small-first d bs k) (subst (λ x. BlockOf x m d f.0) e f.1)
