-- The choice in the paper's words: the best divisor, where its weight is above 0; and that it leaves one step. Assumes nothing.
use Prim.Native.Nat.{ℕ}
use mathlib.Core.Path.{◌≡◌, refl, sym, ap, ap₂, ◌∙◌}
use mathlib.Core.Logic.{◌↔◌, inl, inr}
use mathlib.Core.Bool.{Bool, true, false, cond}
use mathlib.Core.List.{List}
use mathlib.Core.Option.{Option, none, some, none-ne-some}
use native.Mathlib.Omega.{arith}
use lib.IntN.{pos}
use lib.Signed.{lt_z}
use Rattle.sets.proofs.{Truth.decided, Orders.not_after}
use Rattle.cube.proofs.Lits.{fit_cube, cube-one}
use Rattle.network.specs.{Net.Net, Net.nodes, Held.net_of, declared.Network.Network}
use Rattle.extract_laws.specs.Divisor as extraction
use Rattle.extract_laws.specs.Extract.{weight, best}
use Rattle.extract_laws.specs.{Run.Weighed, Run.weighing, Meaning.Worth, Meaning.Done}
use Rattle.extract_laws.proofs.Choosing.{heavier-order, best-iff, best_none}
use Rattle.extract_tidy.{specs.Tidy.arranged}
use Rattle.extract_divisor.specs.Divisor.{divisor_of, weighed_of, no_step}
use Rattle.extract_divisor.specs.declared.{Divisor.Divisor, Divisor.TheVariants.Pair, Divisor.TheVariants.Sum}
use Rattle.extract_divisor.specs.declared.Step.{Step}
use Rattle.extract_gains.specs.Gains.{many}
use Rattle.extract_counts.{specs.Counts.Says, proofs.Arranged.arranged-neat}
use Rattle.extract_choice.specs.Choice.{worth_in, chosen_in, Chosen}
use Rattle.extract_choice.specs.Parts.{best_below, Counted}
use Rattle.extract_choice.proofs.Leading.{table_done, table-worth, counted-uses}

-- ---- the choice

module _ (n : Net) where
  -- worth a step: the best divisor, with a weight above 0
  pub worth-iff : (m : Weighed) → (worth_in n (best n) ≡ some m) ↔ ((d : extraction.Divisor) × Worth n d × (m ≡ weighing n d))
  unfolding worth_in
  worth-iff m = (forth (best n) refl, λ (d, w, e). rw ((best-iff n d).1 w.best, w.above) (ap some (sym e)))
    where
      forth : (o : Option extraction.Divisor) → best n ≡ o → worth_in n o ≡ some m → (d : extraction.Divisor) × Worth n d × (m ≡ weighing n d)
      forth none e h = absurd (none-ne-some m h)
      forth (some d) e h = elim (decided (lt_z (pos 0) (weight n d))) [
        | inl t ↦ let q : some (weighing n d) ≡ some m = rw t at h in (d, record { best = (best-iff n d).0 e; above = t }, cc)
        | inr t ↦ absurd (none-ne-some m (rw t at h))
      ]

  -- no step: no divisor has a weight above 0
  pub worth-none : (worth_in n (best n) ≡ none) ↔ Done n
  unfolding worth_in
  worth-none = (forth (best n) refl, back (best n) refl)
    where
      forth : (o : Option extraction.Divisor) → best n ≡ o → worth_in n o ≡ none → Done n
      forth none e h d m = absurd (best_none n e d m)
      forth (some d) e h g m = elim (decided (lt_z (pos 0) (weight n d))) [
        | inl t ↦ absurd (none-ne-some (weighing n d) (sym (rw t at h)))
        | inr t ↦ not_after (λ u v. lt_z v u) heavier-order (weight n g) (weight n d) (pos 0) (((best-iff n d).0 e).heaviest g m) t
      ]

      back : (o : Option extraction.Divisor) → best n ≡ o → Done n → worth_in n o ≡ none
      back none e h = refl
      back (some d) e h = rw (h d ((best-iff n d).0 e).chosen)

module _ (n : Network) where
  -- in a network in cube order, and in no other
  chosen-as : (b : Bool) → arranged n ≡ b → chosen_in n ≡ cond b (worth_in (net_of n) (best (net_of n))) none
  unfolding chosen_in
  chosen-as b h = rw h

  -- a step that says what the best divisor weighs, where that is above 0; and where there is none, the step of zeros
  chosen-worth : (s : Step) → arranged n ≡ true → (d : extraction.Divisor) → Worth (net_of n) d → weighed_of s ≡ weighing (net_of n) d
      → Chosen (chosen_in n) s
  chosen-worth s h d w e = rw (chosen-as true h, (worth-iff (net_of n) (weighing (net_of n) d)).1 (d, w, refl)) e

  pub chosen-done : (s : Step) → arranged n ≡ true → Done (net_of n) → s ≡ no_step → Chosen (chosen_in n) s
  chosen-done s h d e = rw (chosen-as true h, (worth-none (net_of n)).1 d) e

  pub chosen-not : (s : Step) → arranged n ≡ false → s ≡ no_step → Chosen (chosen_in n) s
  chosen-not s h e = rw (chosen-as false h) e

  -- so the best entry of a table that says the gains decides
  module _ (h : arranged n ≡ true) (t g : List ℕ) (k : Says t g (nodes (net_of n))) (s : Step) (e : weighed_of s ≡ best_below t g (many t)) where
    pub entries_none : lt_z (pos 0) s.weight ≡ false → (r : Step) → r ≡ no_step → Chosen (chosen_in n) r
    entries_none l r z = chosen-done r h (table_done (net_of n) (arranged-neat n h) t g k (rw (← e) l)) z

    pub entries-chosen : lt_z (pos 0) s.weight ≡ true → (r : Step) → Counted (nodes (net_of n)) (divisor_of s.divisor) s.weight r.uses
        → r.divisor ≡ s.divisor → r.weight ≡ s.weight → Chosen (chosen_in n) r
    entries-chosen l r c p q =
        let (w, v) = rw (← e) at (table-worth (net_of n) (arranged-neat n h) t g k (rw (← e) l)) in
        let u = counted-uses (net_of n) (divisor_of s.divisor) r.uses (rw v c) in
        chosen-worth r h (divisor_of s.divisor) w (λ i. record { divisor = divisor_of (p i); weight = (q ∙ sym v) i; uses = u i })

  -- the choice is the best divisor of a network in cube order, where its weight is above 0, with its weight and uses
  pub chosen-iff : (m : Weighed) → (chosen_in n ≡ some m) ↔ ((arranged n ≡ true) × ((d : extraction.Divisor) × Worth (net_of n) d × (m ≡ weighing (net_of n) d)))
  chosen-iff m = (
    λ h. elim (decided (arranged n)) [
      | inl t ↦ (t, (worth-iff (net_of n) m).0 (sym (chosen-as true t) ∙ h))
      | inr t ↦ absurd (none-ne-some m (sym (chosen-as false t) ∙ h))
    ],
    λ (t, h). chosen-as true t ∙ (worth-iff (net_of n) m).1 h,
  )

  -- there is none where no divisor has a weight above 0, or the network is not in cube order
  pub chosen_none : (chosen_in n ≡ none) ↔ (arranged n ≡ true → Done (net_of n))
  chosen_none = (
    λ h t. (worth-none (net_of n)).0 (sym (chosen-as true t) ∙ h),
    λ k. elim (decided (arranged n)) [ inl t ↦ chosen-as true t ∙ (worth-none (net_of n)).1 (k t) | inr t ↦ chosen-as false t ],
  )

-- ---- one answer

-- the cubes are as the language holds them
abbrev pub Masked : Divisor → Type 0
Masked (Pair p q) = Unit {0}
Masked (Sum a b) = (fit_cube a ≡ true) × (fit_cube b ≡ true)

divisor-one : (d e : Divisor) → Masked d → Masked e → divisor_of d ≡ divisor_of e → d ≡ e
divisor-one (Pair p q) (Pair r s) h k e = let x : p.0 ≡ r.0 = cc in let y : q.0 ≡ s.0 = cc in λ i. Pair (record { 0 = x i }) (record { 0 = y i })
divisor-one (Pair p q) (Sum a b) h k e = absurd (let z : ◌≡◌ {A = ℕ} 0 1 = cc in omega arith)
divisor-one (Sum a b) (Pair p q) h k e = absurd (let z : ◌≡◌ {A = ℕ} 0 1 = cc in omega arith)
divisor-one (Sum a b) (Sum c d) (h, i) (j, k) e = ap₂ Sum (cube-one a c h j (cc)) (cube-one b d i k (cc))

-- two steps that the contract allows are the same
pub chosen-one : (o : Option Weighed) (s t : Step) → Masked s.divisor → Masked t.divisor → Chosen o s → Chosen o t → s ≡ t
chosen-one none s t h k p q = p ∙ sym q
chosen-one (some m) s t h k p q =
    let e : weighed_of s ≡ weighed_of t = p ∙ sym q in
    λ i. record {
      divisor = divisor-one s.divisor t.divisor h k (ap (λ (x : Weighed). x.divisor) e) i;
      weight = ap (λ (x : Weighed). x.weight) e i;
      uses = ap (λ (x : Weighed). x.uses) e i;
    }
