-- What is made of nodes and premises, counted and built.
use Rattle.std.proofs.Common.{◌≡◌, ℕ, ◌+◌, List, [], ◌∷◌, ◌++◌, map, refl, sym, ap, ◌∙◌, arith}
use Rattle.std.proofs.lemmas.List.{map-append}
use Rattle.cc_core.specs.Derivations.{Derivation, Premises, NoPremise, Premise}
use Rattle.cc_capture.specs.declared.var.Elem.{Elem}
use Rattle.cc_checking.specs.CanonicalDerivations.{premises_for}
use Rattle.cc_checking.specs.DerivationSizes.{nodes, nodes_of}
use Rattle.cc_derive.specs.Trees.{listed_before, listed}

-- one more at the end
pub listed_before-append : (ds : List Derivation) (d : Derivation) (rest : Premises)
    → listed_before (ds ++ d ∷ []) rest ≡ listed_before ds (Premise d rest)
listed_before-append [] d rest = refl
listed_before-append (e ∷ ds) d rest = ap (Premise e) (listed_before-append ds d rest)

counted_before : (ds : List Derivation) (rest : Premises)
    → nodes_of (listed_before ds rest) ≡ nodes_of (listed ds) + nodes_of rest
counted_before [] rest = omega arith
counted_before (d ∷ ds) rest = omega (arith, counted_before ds rest)

pub counted-append : (ds : List Derivation) (d : Derivation)
    → nodes_of (listed (ds ++ d ∷ [])) ≡ nodes_of (listed ds) + nodes d
counted-append ds d =
    ap nodes_of (listed_before-append ds d NoPremise) ∙ omega (arith, counted_before ds (Premise d NoPremise))

-- one premise for each element
pub premises_for-listed : (derive : Elem → Derivation) (es : List Elem)
    → premises_for derive es ≡ listed (map derive es)
premises_for-listed derive [] = refl
premises_for-listed derive (e ∷ es) = ap (Premise (derive e)) (premises_for-listed derive es)

-- the last one of a list is taken off it
pub listed_before-popped : {X : Type 0} (xs ys : List X) (x : X) (f : X → Derivation) (rest : Premises) → xs ≡ ys ++ x ∷ []
    → listed_before (map f ys) (Premise (f x) rest) ≡ listed_before (map f xs) rest
listed_before-popped xs ys x f rest e =
    sym (listed_before-append (map f ys) (f x) rest)
    ∙ ap (λ ds. listed_before ds rest) (sym (map-append f ys (x ∷ [])))
    ∙ ap (λ zs. listed_before (map f zs) rest) (sym e)
