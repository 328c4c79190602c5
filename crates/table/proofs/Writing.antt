-- What was read of an accepted text is what is written in it: each line adds what it says, and what all say is found in their order. Assumes nothing.
use Prim.Native.Nat.{ℕ, ◌≤◌}
use mathlib.Core.Path.{◌≡◌, refl, sym, ap, ◌∙◌, subst}
use mathlib.Core.Bool.{false}
use mathlib.Core.List.{List, [], ◌∷◌, ◌++◌, append-nil, append_assoc}
use mathlib.Core.Option.{Option, none, some}
use native.Mathlib.Omega.{arith}
use lib.ListN.{get_or}
use Rattle.table_lines.specs.Text.{content}
use Rattle.table_kinds.specs.{Kinds.kind_of, declared.Kind.Kind, declared.Kind.TheVariants.End, declared.Kind.TheVariants.Other}
use Rattle.table_kinds.specs.Meaning.{Spelled, bare, dot_i, dot_o, dot_p, dot_e, dot_end, OfKind, known, another}
use Rattle.table_kinds.proofs.Kinding.{kind-iff}
use Rattle.table_rows.{specs.Lines.is_place, specs.Lines.cube_line_of, proofs.Writing.line-none}
use Rattle.table.specs.Table.{State, start, accepted, read_text}
use Rattle.table.specs.Written.{is_end, before_end, listed, found, inputs_number, outputs_number, products_number}
use Rattle.table.specs.Written.{inputs_in, outputs_in, inputs_of, outputs_of}
use Rattle.table.specs.Meaning.{Goes, blank, inputs, outputs, products, cube, Reads, nothing, line, Ended, whole, Says}
use Rattle.table.proofs.Refusals.{accepted-ended, accepted-complete}

-- ---- a line of a known kind is no cube line

not-place : {c : List ℕ} {k : Kind} → Spelled c k → (b : ℕ) (t : List ℕ) → c ≡ b ∷ t → is_place b ≡ false
not-place {c} h b t e = go h
  where
    dot : (d : List ℕ) → c ≡ 46 ∷ d → is_place b ≡ false
    dot d q = let x : 46 ≡ b = cc in subst (λ (z : ℕ). is_place z ≡ false) x refl

    go : {k : Kind} → Spelled c k → is_place b ≡ false
    go (bare q) = let z : ◌≡◌ {A = ℕ} 0 1 = cc in absurd (omega arith)
    go (dot_i n w) = dot _ w.text
    go (dot_o n w) = dot _ w.text
    go (dot_p n w) = dot _ w.text
    go (dot_e q) = dot _ q
    go (dot_end q) = dot _ q

no_line : (n m : ℕ) (c : List ℕ) {k : Kind} → kind_of c ≡ k → (k ≡ Other → ⊥) → 1 ≤ n → cube_line_of n m c ≡ none
no_line n m c {k} e f h = go ((kind-iff c k).0 e) f
  where
    go : {j : Kind} → OfKind c j → (j ≡ Other → ⊥) → cube_line_of n m c ≡ none
    go (known w) f = line-none n m c (not-place w) h
    go (another w) f = absurd (f refl)

-- ---- what lines add to what was read

-- where each line adds what f finds in it, all add what f finds in them
module _ {A : Type 0} (view : State → List A) (f : List ℕ → Option A) where
  read_found : {s t : State} {ls : List (List ℕ)} → Reads s ls t
      → ((u v : State) (c : List ℕ) (ms : List (List ℕ)) → Goes u c v → Reads v ms t → view v ≡ view u ++ listed (f c)) → view t ≡ view s ++ found f ls
  unfolding found
  read_found {s} nothing one = sym (append-nil (view s))
  read_found {s} (line {t = v} {l = l} {ls = ls} g r) one =
      read_found r one
      ∙ ap (◌++ found f ls) (one s v (content l) ls g r)
      ∙ append_assoc (view s) (listed (f (content l))) (found f ls)

-- a line that goes on adds the number that it says, and does not end the table
goes-adds : {s t : State} {c : List ℕ} → Goes s c t → (listed t.wide ≡ listed s.wide ++ listed (inputs_number (kind_of c)))
    × (listed t.tall ≡ listed s.tall ++ listed (outputs_number (kind_of c)))
    × (listed t.stated ≡ listed s.stated ++ listed (products_number (kind_of c)))
    × (is_end (kind_of c) ≡ false)
goes-adds (blank k) = rw k (sym (append-nil _), sym (append-nil _), sym (append-nil _), refl)
goes-adds (inputs n k h a b) = rw (k, h.new) (refl, sym (append-nil _), sym (append-nil _), refl)
goes-adds (outputs n k h a b) = rw (k, h.new) (sym (append-nil _), refl, sym (append-nil _), refl)
goes-adds (products n k h b) = rw (k, h.new) (sym (append-nil _), sym (append-nil _), refl, refl)
goes-adds (cube n m l k p q e h) = rw k (sym (append-nil _), sym (append-nil _), sym (append-nil _), refl)

module _ {s t : State} {ls : List (List ℕ)} (r : Reads s ls t) where
  read_wide : listed t.wide ≡ listed s.wide ++ found (λ c. inputs_number (kind_of c)) ls
  read_wide = read_found (λ (u : State). listed u.wide) (λ c. inputs_number (kind_of c)) r (λ u v c ms g m. (goes-adds g).0)

  read-tall : listed t.tall ≡ listed s.tall ++ found (λ c. outputs_number (kind_of c)) ls
  read-tall = read_found (λ (u : State). listed u.tall) (λ c. outputs_number (kind_of c)) r (λ u v c ms g m. (goes-adds g).1)

  read-stated : listed t.stated ≡ listed s.stated ++ found (λ c. products_number (kind_of c)) ls
  read-stated = read_found (λ (u : State). listed u.stated) (λ c. products_number (kind_of c)) r (λ u v c ms g m. (goes-adds g).2)

-- a number that is there is the last
stays : {o p : Option ℕ} {n k : ℕ} (l : List ℕ) → listed o ≡ listed p ++ l → p ≡ some k → o ≡ some n → k ≡ n
stays {n = n} {k = k} l e p q = let w : n ∷ [] ≡ k ∷ l = ap listed (sym q) ∙ e ∙ ap (λ (x : Option ℕ). listed x ++ l) p in cc

module _ (n m : ℕ) (t : State) (wide : t.wide ≡ some n) (tall : t.tall ≡ some m) (one : 1 ≤ n) where
  goes_lines : {s u : State} {c : List ℕ} {ls : List (List ℕ)} → Goes s c u → Reads u ls t → u.lines ≡ s.lines ++ listed (cube_line_of n m c)
  goes_lines {s} {c = c} g r = go g r
    where
      unchanged : {k : Kind} → kind_of c ≡ k → (k ≡ Other → ⊥) → s.lines ≡ s.lines ++ listed (cube_line_of n m c)
      unchanged e f = rw (no_line n m c e f one) (sym (append-nil s.lines))

      go : {u : State} {ls : List (List ℕ)} → Goes s c u → Reads u ls t → u.lines ≡ s.lines ++ listed (cube_line_of n m c)
      go (blank k) r = unchanged k (λ e. let z : ◌≡◌ {A = ℕ} 0 1 = cc in omega arith)
      go (inputs j k h a b) r = unchanged k (λ e. let z : ◌≡◌ {A = ℕ} 0 1 = cc in omega arith)
      go (outputs j k h a b) r = unchanged k (λ e. let z : ◌≡◌ {A = ℕ} 0 1 = cc in omega arith)
      go (products j k h b) r = unchanged k (λ e. let z : ◌≡◌ {A = ℕ} 0 1 = cc in omega arith)
      go (cube i j l k p q e h) r =
          let x : i ≡ n = stays _ (read_wide r) p wide in
          let y : j ≡ m = stays _ (read-tall r) q tall in
          let z : cube_line_of n m c ≡ some l = subst (λ (d : ℕ). cube_line_of n d c ≡ some l) y (subst (λ (d : ℕ). cube_line_of d j c ≡ some l) x e) in
          rw z

  read-lines-in : {s : State} {ls : List (List ℕ)} → Reads s ls t → t.lines ≡ s.lines ++ found (cube_line_of n m) ls
  read-lines-in r = read_found (λ (u : State). u.lines) (cube_line_of n m) r (λ u v c ms g w. goes_lines g w)

-- the lines read are those before `.e`
read-before : {s t : State} {ls : List (List ℕ)} (l : List ℕ) (rest : List (List ℕ)) → Reads s ls t → kind_of (content l) ≡ End
    → before_end (ls ++ (l ∷ rest)) ≡ ls
unfolding before_end
read-before l rest nothing e = rw e
read-before l rest (line {l = x} g r) e = rw (goes-adds g).3 (ap (λ (z : List (List ℕ)). x ∷ z) (read-before l rest r e))

-- ---- a whole text

-- of an accepted text the lines before `.e` were read, from nothing on
ended-read : {ls : List (List ℕ)} {s : State} → Ended 1 start ls (accepted s) → Reads start (before_end ls) s
ended-read (whole a l b r d) = rw (read-before l b r d.kind) r

-- of an accepted text was read what it says
pub read-lines : (t : List ℕ) (s : State) → read_text t ≡ accepted s → Says t s
read-lines t s e =
    let r = ended-read (accepted-ended t s e) in
    let c = accepted-complete t s e in
    let w : inputs_in t ≡ c.0 ∷ [] = sym (read_wide r) ∙ ap listed c.2.wide in
    let u : outputs_in t ≡ c.1 ∷ [] = sym (read-tall r) ∙ ap listed c.2.tall in
    let n : c.0 ≡ inputs_of t = sym (ap (λ (l : List ℕ). get_or l 0 0) w) in
    let m : c.1 ≡ outputs_of t = sym (ap (λ (l : List ℕ). get_or l 0 0) u) in
    record {
      inputs = w ∙ ap (λ (k : ℕ). k ∷ []) n;
      wide = c.2.wide ∙ ap some n;
      outputs = u ∙ ap (λ (k : ℕ). k ∷ []) m;
      tall = c.2.tall ∙ ap some m;
      products = sym (read-stated r);
      lines = read-lines-in (inputs_of t) (outputs_of t) s (c.2.wide ∙ ap some n) (c.2.tall ∙ ap some m) (subst (λ (k : ℕ). 1 ≤ k) n c.2.inputs.0) r;
    }
