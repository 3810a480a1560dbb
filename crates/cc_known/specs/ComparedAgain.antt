-- A comparison that comes again where the entries that it goes by stand elsewhere.
use Rattle.std.specs.Prelude.{◌≡◌, ℕ, ◌<◌, Bool, ◌++◌, length, Option, Some, None}
use Rattle.std.specs.List.{list_all}
use Rattle.std.specs.Option.{option_map}
use Rattle.cc_capture.specs.Sets.{Set}
use Rattle.cc_core.specs.Contexts.{Bind, TermEntry, TypeEntry, Context, lookup}
use Rattle.cc_core.specs.Shapes.{Shape, AnyShape}
use Rattle.cc_core.specs.Substitution.{renamed, renamed_set}
use Rattle.cc_core.specs.WellFormed.{IsWellFormedContext, IsWellFormedShape, IsWellFormedSet}
use Rattle.cc_checking.specs.Comparison.{Demand, demanded, Comparison, Unfinished, Mismatch, Matches, comparison}
use Rattle.cc_known.specs.Keeping.{is_demand_settled}

-- Whether all demands of a comparison that matches pass the test. Nothing is told of one that does not, or is not at its
-- end.
abbrev pub told : (Demand → Bool) → Comparison → Option Bool
told test Unfinished = None
told test Mismatch = None
told test (Matches demands) = Some (list_all test demands)

-- A comparison that comes again where entries were passed on top of a base, of two shapes that name nothing beyond it,
-- matches alike, and its demands are settled alike.
abbrev pub ComparedAgain : Type 0
ComparedAgain =
    (base passed : Context) (steps : ℕ) (left right : Shape) → IsWellFormedContext base
    → IsWellFormedShape base left → IsWellFormedShape base right
    → told is_demand_settled (comparison steps (passed ++ base) left right)
    ≡ told is_demand_settled (comparison steps base left right)

-- an entry with its positions renamed
abbrev pub renamed_entry : (ℕ → ℕ) → Bind → Bind
renamed_entry to (TermEntry shape set) = TermEntry (renamed to shape) (renamed_set to set)
renamed_entry to (TypeEntry bound) = TypeEntry (renamed to bound)

-- what a comparison sees of an entry: the shape of a variable of terms is never looked up
abbrev pub seen : Bind → Bind
seen (TermEntry shape set) = TermEntry AnyShape set
seen (TypeEntry bound) = TypeEntry bound

-- What is seen of a small context stands in another one, each entry at a place of its own.
pub record Embeds (small context : Context) (to : ℕ → ℕ) : Type 0 where
  pub apart : (p q : ℕ) → p < length small → q < length small → to p ≡ to q → p ≡ q
  pub entries : (p : ℕ) → p < length small
      → option_map seen (lookup context (to p))
      ≡ option_map (λ entry. renamed_entry to (seen entry)) (lookup small p)

-- So does one of two shapes of a small context that stands in another one.
abbrev pub ComparedEmbedded : Type 0
ComparedEmbedded =
    (small context : Context) (to : ℕ → ℕ) (steps : ℕ) (left right : Shape)
    → IsWellFormedContext small → IsWellFormedContext context → Embeds small context to
    → IsWellFormedShape small left → IsWellFormedShape small right
    → told is_demand_settled (comparison steps context (renamed to left) (renamed to right))
    ≡ told is_demand_settled (comparison steps small left right)

-- And a demand of a small context that stands in another one is settled alike.
abbrev pub SettledEmbedded : Type 0
SettledEmbedded =
    (small context : Context) (to : ℕ → ℕ) (left right : Set)
    → IsWellFormedContext small → IsWellFormedContext context → Embeds small context to
    → IsWellFormedSet small left → IsWellFormedSet small right
    → is_demand_settled (demanded context (renamed_set to left) (renamed_set to right))
    ≡ is_demand_settled (demanded small left right)
