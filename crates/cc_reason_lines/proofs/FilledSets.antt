-- The oldest entries of a context, with their filled declared sets alone.
use Rattle.std.proofs.Common.{◌≡◌, ℕ, ◌+◌, [], ◌∷◌, ◌++◌, length, length-append, Some, refl, sym, ap, ◌∙◌, arith}
use Rattle.cc_core.specs.Contexts.{Bind, Context, lookup}
use Rattle.cc_checking.specs.Fillings.{Filling, filled_entry, filled_context}
use Rattle.cc_known.specs.KeptWalks.{StandsOn}
use Rattle.cc_known.proofs.OldestEntries.{stands_empty, stands_longer, length_longer}
use Rattle.cc_captured_reasons.specs.SetsAlone.{set_alone, sets_alone}

-- these are so many
pub record AreOldest (f : Filling) (context sets : Context) (count : ℕ) : Type 0 where
  pub base : Context
  pub stands : StandsOn base context
  pub long : length base ≡ count
  pub are : sets ≡ sets_alone (filled_context f base)

pub oldest_none : (f : Filling) (context sets : Context) → sets ≡ [] → AreOldest f context sets 0
oldest_none f context sets is = record { base = []; stands = stands_empty context; long = refl; are = is }

pub oldest_more : (f : Filling) (context sets more : Context) (count : ℕ) (b entry : Bind) → AreOldest f context sets count → lookup context count ≡ Some b
    → entry ≡ set_alone (filled_entry f b) → more ≡ entry ∷ sets → AreOldest f context more (count + 1)
oldest_more f context sets more count b entry before there alone is =
    record {
      base = b ∷ before.base;
      stands = stands_longer before.base (b ∷ before.base) context count b before.stands before.long there refl;
      long = length_longer before.base (b ∷ before.base) count b before.long refl;
      are = is ∙ (λ i. alone i ∷ before.are i);
    }

-- where a part at the bottom of a list is as long as the list, it is the whole
whole : (passed base : Context) → length base ≡ length (passed ++ base) → base ≡ passed ++ base
whole [] base long = refl
whole (b ∷ passed) base long = let both = length-append passed base in absurd (omega arith)

pub oldest_all : (f : Filling) (context sets : Context) (count : ℕ) → AreOldest f context sets count → count ≡ length context
    → sets ≡ sets_alone (filled_context f context)
oldest_all f context sets count before all =
    let on = before.stands in
    let same = whole on.passed before.base (before.long ∙ all ∙ ap length on.is) in
    before.are ∙ ap (λ (g : Context). sets_alone (filled_context f g)) (same ∙ sym on.is)
