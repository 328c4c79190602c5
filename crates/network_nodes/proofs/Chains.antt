-- What a chain over nodes answers. Assumes nothing.
use Rattle.std.proofs.Common.{◌≡◌, ap₂, ℕ, Bool, List, take, Bor}
use Rattle.std.specs.Fn.{Called}
use Rattle.std.specs.Iterator.{YieldsFirstBy, ChecksAll, ChecksAny, FoldsItems}
use Rattle.std.specs.Iterator.Adapters.{take_source, take_count, take_steps}
use Rattle.std.specs.List.{fold}
use Rattle.std.proofs.lemmas.Iterator.{YieldsList, YieldsList-from_take}
use Rattle.std.proofs.lemmas.Iterator.Consumers.{YieldsList-from_first, YieldsList-at, fold_from_yields_List}
use denote.Param.Members.{Mut}
use Rattle.sets.specs.Lists.{all, any}
use Rattle.sets.proofs.Chains.{all-chain, any-chain}
use Rattle.expression.specs.Words.{cubes_of}
use Rattle.network_nodes.specs.{Nodes.cut, declared.Nodes.Nodes}
use Rattle.network_nodes.proofs.Cutting.{cut-take}

abbrev pub left : Nodes → List (List (List ℕ))
left s = cut s.counts.now (cubes_of s.words.now)

abbrev pub cubes : Bor (List ℕ) → List (List ℕ)
cubes f = cubes_of f.now

-- each comes, and those of the first e counts
module _ {s : Nodes} {ws ns : List ℕ} where
  pub nodes-list : (s.words.now ≡ ws) × (s.counts.now ≡ ns) → YieldsList (YieldsFirstBy cubes left) cubes s (cut ns (cubes_of ws))
  nodes-list e = YieldsList-from_first cubes left _ (ap₂ (λ w n. cut n (cubes_of w)) e.0 e.1)

pub front-list : {s : _} {t : Nodes} {ws ns : List ℕ} (e : ℕ) → take_source s ≡ t → (t.words.now ≡ ws) × (t.counts.now ≡ ns) → take_count s ≡ e
    → YieldsList (take_steps (YieldsFirstBy cubes left)) cubes s (cut (take e ns) (cubes_of ws))
front-list {ws = ws} {ns} e d h n = rw cut-take (YieldsList-from_take e (YieldsList-at d (nodes-list h)) n)

module _ {F : Type 0} {g : Mut F (Bor (List ℕ) × Unit {0}) Bool} {s : Nodes} {ws ns : List ℕ} (test : List (List ℕ) → Bool) (u : Nodes) (f : F) (r : Bool) where
  -- whether all nodes pass a test that the closure computes
  pub all-nodes : ChecksAll (YieldsFirstBy cubes left) g s f r u → (s.words.now ≡ ws) × (s.counts.now ≡ ns)
      → ((c : Bor (List ℕ)) (b : Bool) (q : F) → Called g f (c, tt) b q → (q ≡ f) × (b ≡ test (cubes c))) → r ≡ all test (cut ns (cubes_of ws))
  all-nodes d e k = all-chain test u f r d (nodes-list e) k

  -- whether one does
  pub any-nodes : ChecksAny (YieldsFirstBy cubes left) g s f r u → (s.words.now ≡ ws) × (s.counts.now ≡ ns)
      → ((c : Bor (List ℕ)) (b : Bool) (q : F) → Called g f (c, tt) b q → (q ≡ f) × (b ≡ test (cubes c))) → r ≡ any test (cut ns (cubes_of ws))
  any-nodes d e k = any-chain test u f r d (nodes-list e) k

-- what a fold comes to, whose step the closure computes
pub fold-nodes : {C F : Type 0} {g : Mut F (C × (Bor (List ℕ) × Unit {0})) C} {s : Nodes} {ws ns : List ℕ} (h : C → List (List ℕ) → C) (f : F) (init r : C)
    → FoldsItems (YieldsFirstBy cubes left) g s f init r → (s.words.now ≡ ws) × (s.counts.now ≡ ns)
    → ((a : C) (c : Bor (List ℕ)) (b : C) (q : F) → Called g f (a, (c, tt)) b q → (q ≡ f) × (b ≡ h a (cubes c))) → r ≡ fold h init (cut ns (cubes_of ws))
fold-nodes {g = g} h f init r d e k = fold_from_yields_List g h init r d (nodes-list e) k
