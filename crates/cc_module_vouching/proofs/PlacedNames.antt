-- What a map that is ordered by names has for each name, once one of them was given something.
use Rattle.std.proofs.Common.{◌≡◌, ℕ, List, Option, cond, sym, ap, ◌∙◌}
use Rattle.std.specs.BTreeMap.{BTreeMap, Updates, get}
use Rattle.std.specs.Str.{bytes_eq}
use Rattle.cc_base.specs.Names.{compare_names}
use Rattle.cc_base.specs.NameTexts.{bytes_eq-order}

pub given_name : {X : Type 0} (old new : BTreeMap (List ℕ) X) (copy name : List ℕ) (given : Option X) → copy ≡ name
    → Updates compare_names old new copy given
    → (other : List ℕ) → get compare_names new other ≡ cond (bytes_eq name other) given (get compare_names old other)
given_name old new copy name given same updates other =
    updates.0 other
    ∙ ap (λ b. cond b given (get compare_names old other))
    (sym (bytes_eq-order copy other) ∙ ap (λ k. bytes_eq k other) same)
