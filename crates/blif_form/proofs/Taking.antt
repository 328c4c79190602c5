-- A block that is found: names, rows, and every column used make a block in the form, and where one of them fails there is none. Assumes nothing.
use Prim.Native.Nat.{ℕ, ◌≤◌}
use mathlib.Core.Path.{◌≡◌, refl, sym, ap, ◌∙◌, subst}
use mathlib.Core.Bool.{true, false}
use mathlib.Core.List.Memᴰ.{head as here}
use mathlib.Core.List.{List, ◌∷◌, ◌++◌, map}
use native.Mathlib.Omega.{arith}
use lib.Dec.{ltb}
use lib.ListN.{length, length-map}
use borrow.Author.Tests.{lt-ltb}
use Rattle.sets.specs.{Lists.all, Sets.asc, Word.largest}
use Rattle.sets.proofs.Truth.{clash}
use Rattle.sets.proofs.Lists.{◌∈◌, all_in, map-out}
use Rattle.expression.specs.Expression.{is_cube}
use Rattle.network_reads.specs.Reading.{reads_of}
use Rattle.blif_laws.specs.Text.{Name, variable, spaced, Block}
use Rattle.blif_laws.specs.Reading.{cube_in, among, named_in}
use Rattle.blif_laws.{specs.Meaning.FormedBlock, proofs.Rowing.cube-read}
use Rattle.blif_laws.proofs.Blocking.{below-reads, among_in, among-out}
use Rattle.blif_scan.specs.Scanning.{left, label_of}
use Rattle.blif_lines.specs.Lining.{words_of, variable_in, numbers_in, top_of, NamesGot, NamesNot, RowsOf, RowsGot, RowsNot}
use Rattle.blif_lines.proofs.Lining.{top_below, asc-parts}
use Rattle.blif_form.specs.Surveying.{UsedIs, BlockGot, BlockNot}
use Rattle.blif_lines.specs.declared.{Names.Names, Rows.Rows}
use Rattle.blif_form.proofs.Blocking.{named_for, signs_for, Blocked, block-blocked, blocked-block, numbers-named, block-ascends}
use Rattle.blif_form.proofs.Passing.{name-own, count-own, rows-own}
use Rattle.blif_form.proofs.Columns.{all_used, block-used, signs-rows, used-reads}

-- ---- no block

pub nameless : {s : List ℕ} {at m : ℕ} {old new : List ℕ} → m ≤ largest → NamesNot s at old new → BlockNot s at m
nameless k n = record { none = λ b more i h. n.none (named_for b) (block-blocked h).rest (block-ascends h.formed i k) (block-blocked h).names }

module _ {s : List ℕ} {at base m : ℕ} {old new : List ℕ} {d : Names} (n : NamesGot s at base old new d) where
  pub outside : among m (label_of d.name) ≡ false → BlockNot s at m
  outside a = record {
    none = λ b more i h.
        clash (among_in m b.name h.formed.among) (ap (among m) (sym (name-own n (block-blocked h))) ∙ a);
  }

  pub rowless : {l r : List ℕ} → RowsNot s d.next d.reads l r → BlockNot s at m
  rowless w = record { none = λ b more i h. w.none (signs_for (reads_of b.cubes) b.cubes) more (rows-own n (block-blocked h)) }

  pub unused : UsedIs s d.next d.reads false → BlockNot s at m
  unused u = record {
    none = λ b more i h.
        clash (subst (λ r. all_used r (signs_for (reads_of b.cubes) b.cubes) ≡ true) (sym (count-own n (block-blocked h))) (block-used b.cubes))
        (sym (u (signs_for (reads_of b.cubes) b.cubes) more (rows-own n (block-blocked h))));
  }

-- ---- a block

-- numbers that ascend to the last name
order-out : (vs : List ℕ) (a : Name) → asc (vs ++ variable_in a) ≡ true → (asc vs ≡ true) × ((v : ℕ) → a ≡ variable v → all (λ u. ltb u v) vs ≡ true)
order-out vs a h =
    let r = asc-parts vs (variable_in a) h in
    (r.0, λ v e. all_in (λ u. ltb u v) vs (λ u i. lt-ltb u v (r.2 u v i (rw e (here refl)))))

module _ (m : ℕ) {s : List ℕ} {at base first : ℕ} {old new l r : List ℕ} {d : Names} {w : Rows} (n : NamesGot s at base old new d)
    (g : RowsGot s d.next d.reads first l r w) (a : among m (label_of d.name) ≡ true) (u : UsedIs s d.next d.reads true) where
  abbrev vs : List ℕ
  vs = n.named.reads

  abbrev block : Block
  block = record { name = n.named.name; cubes = map (cube_in vs) g.words }

  ordered : (asc vs ≡ true) × ((v : ℕ) → n.named.name ≡ variable v → all (λ u. ltb u v) vs ≡ true)
  ordered = order-out vs n.named.name n.ascends.order

  rows : RowsOf (left s d.next) (length vs) g.words (left s w.next)
  rows = subst (λ k. RowsOf (left s d.next) k g.words (left s w.next)) n.reads g.rows

  used : all_used (length vs) g.words ≡ true
  used = subst (λ k. all_used k g.words ≡ true) n.reads (sym (u g.words (left s w.next) g.rows))

  read : reads_of block.cubes ≡ vs
  read = used-reads vs g.words ordered.0 rows.each used

  named : named_for block ≡ n.named
  named = ap (λ x. record { reads = x; name = n.named.name }) read

  formed : FormedBlock m block
  formed = record {
    cubes = λ c i. let q = map-out (cube_in vs) g.words i in ap is_cube q.2 ∙ cube-read vs q.0 ordered.0;
    earlier = λ v e. below-reads v block.cubes (ap (all (λ u. ltb u v)) read ∙ ordered.1 v e);
    among = among-out m n.named.name (ap (among m) (sym n.name) ∙ a);
  }

  lines-here : Blocked (left s at) block (left s w.next)
  lines-here = record {
    rest = left s d.next;
    names = n.text ∙ ap (λ e. spaced (words_of e) ++ (10 ∷ left s d.next)) (sym named);
    rows = subst (λ x. RowsOf (left s d.next) (length x) (signs_for x block.cubes) (left s w.next)) (sym read)
        (subst (λ x. RowsOf (left s d.next) (length vs) x (left s w.next)) (sym (signs-rows vs g.words ordered.0 rows.each)) rows);
  }

  numbers : numbers_in n.named ≡ named_in block
  numbers = ap numbers_in (sym named) ∙ numbers-named block

  pub block-found : d.top ≤ largest → BlockGot s at m (record { name = d.name; rows = w.count; top = d.top; next = w.next })
  block-found k = record {
    block = block;
    is = blocked-block formed lines-here;
    small = λ v i. let z = top_below (subst (v ∈◌) (sym numbers) i) in omega (arith, n.top);
    name = n.name;
    rows = g.count ∙ sym (length-map g.words (cube_in vs));
    top = n.top ∙ ap top_of numbers;
    forth = let z = g.within n.forth.within in record { on = omega (arith, n.forth.on, g.after); within = z };
  }
