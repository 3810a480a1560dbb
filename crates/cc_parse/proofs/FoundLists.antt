-- What is found of a list behind what is read already.
use Rattle.std.proofs.Common.{◌≡◌, ℕ, List, [], ◌∷◌, ◌++◌, Err, map, refl, sym, ap, ◌∙◌, subst, append_assoc, append-nil}
use Rattle.std.proofs.lemmas.List.{map-append}
use Rattle.cc_lex.specs.Lexemes.{PlacedLexeme}
use Rattle.cc_grammar.specs.Reading.{Found, Got, Wrong, High, Reader, ◌>>=◌}
use Rattle.cc_parse.specs.declared.stop.Stop.{Stop}
use Rattle.cc_parse.specs.declared.stop.Stop.TheVariants as refusals
use Rattle.cc_parse.specs.Agreement.{Agrees, behind}

-- one, and then more
abbrev pub then_more : {A : Type 0} → Found A → Reader (List A) → Found (List A)
then_more one more = one >>= λ first spare rest. more rest >>= λ others less after. Got (first ∷ others) less after

pub behind-nothing : {A : Type 0} (found : Found (List A)) → behind [] found ≡ found
behind-nothing (Got more spare rest) = refl
behind-nothing (Wrong rest) = refl
behind-nothing (High rest) = refl

pub behind-end : {A : Type 0} (first : List A) (spare : ℕ) (rest : List PlacedLexeme) → behind first (Got [] spare rest) ≡ Got first spare rest
behind-end first spare rest = ap (λ all. Got all spare rest) (append-nil first)

pub behind-more : {A : Type 0} (first : List A) (one : A) (found : Found (List A)) → behind (first ++ one ∷ []) found ≡ behind first (found >>= λ more left rest. Got (one ∷ more) left rest)
behind-more first one (Got more spare rest) = ap (λ all. Got all spare rest) (append_assoc first (one ∷ []) more)
behind-more first one (Wrong rest) = refl
behind-more first one (High rest) = refl

-- A turn of a loop: one is read, and stands behind those before.
pub turn-goes_on : {V A : Type 0} (view : V → A) (before after : List V) (value : V) (one : Found A) (more : Reader (List A)) (now whole : Found (List A)) (spare : ℕ) (rest : List PlacedLexeme)
    → now ≡ then_more one more → behind (map view before) now ≡ whole → one ≡ Got (view value) spare rest → after ≡ before ++ value ∷ [] → behind (map view after) (more rest) ≡ whole
turn-goes_on view before after value one more now whole spare rest turn until_now found pushed =
    ap (λ all. behind (map view all) (more rest)) pushed
    ∙ ap (λ all. behind all (more rest)) (map-append view before (value ∷ []))
    ∙ behind-more (map view before) (view value) (more rest)
    ∙ ap (λ f. behind (map view before) (then_more f more)) (sym found)
    ∙ ap (behind (map view before)) (sym turn)
    ∙ until_now

stops : {A B V : Type 0} (view : V → A) (view' : B → List A) (first : List A) (one : Found A) (more : Reader (List A)) (stop : Stop) → Agrees view (Err stop) one → Agrees view' (Err stop) (behind first (then_more one more))
stops view view' first one more (refusals.Wrong rest) found = ap (λ f. behind first (then_more f more)) found
stops view view' first one more (refusals.High rest) found = ap (λ f. behind first (then_more f more)) found
stops view view' first one more refusals.NoMemory found = tt

-- or one is refused.
pub turn-stops : {A B V : Type 0} (view : V → A) (view' : B → List A) (first : List A) (one : Found A) (more : Reader (List A)) (now whole : Found (List A)) (stop : Stop)
    → now ≡ then_more one more → behind first now ≡ whole → Agrees view (Err stop) one → Agrees view' (Err stop) whole
turn-stops view view' first one more now whole stop turn until_now found =
    subst (Agrees view' (Err stop)) (ap (behind first) (sym turn) ∙ until_now) (stops view view' first one more stop found)
