use Rattle.std.proofs.Common.{◌≡◌, true, false, Option, Some, None, refl}
use Rattle.std.specs.Option.{IsSome, MatchOption}
use Rattle.std.proofs.lemmas.Option.{MatchOption-at_some}
use Rattle.cc_core.specs.TermViews.{context_of}
use Rattle.cc_derivation.specs.DerivationViews.{der_of}
use Rattle.cc_derive.specs.Trees.{IsTree}
use Rattle.cc_derive.proofs.AcceptedTrees.{accepted_made, accepted_valid}
use Rattle.cc_derive.proofs.definition.derive.Goals as goal

-- what is there unless two different tests are one
there : {A : Type 0} (o : Option A) (Q : A → Type 0) → MatchOption o (true ≡ false) Q → IsSome o
there (Some x) Q is = refl
there None Q is = cc

pub unwrap-requires : goal.unwrap-requires
unwrap-requires c =
    let g = context_of c.args.ctx.now in
    let made = accepted_made (IsTree true c.in_ok-tree.tree) g c.args.checked.now c.requires c.in_ok-tree.ensures in
    there c.in_ok-tree.tree.der _ made.built

pub returns : goal.returns
returns c =
    let g = context_of c.args.ctx.now in
    let made = accepted_made (IsTree true c.in_ok-tree.tree) g c.args.checked.now c.requires c.in_ok-tree.ensures in
    let is = MatchOption-at_some _ _ c.unwrap.result c.unwrap.ensures made.built in
    let shown = accepted_valid g c.args.checked.now (der_of c.unwrap.result.value) c.requires is in
    record { is = is; valid = shown.0; concludes = shown.1 }
