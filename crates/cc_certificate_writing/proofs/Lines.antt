-- Lines that are written one after the other.
use Rattle.std.proofs.Common.{◌≡◌, ℕ, ◌+◌, ◌<◌, ◌≤◌, List, [], ◌∷◌, ◌++◌, length, take, Some, refl, sym, ap, ◌∙◌, append_assoc, append-nil, length-append, arith, ⊎_elim}
use Rattle.std.proofs.lemmas.Bool.{cases_lt}
use Rattle.std.proofs.lemmas.List.{take_all, take-append-le}
use Rattle.cc_core.specs.Contexts.{Bind, Context, lookup}
use Rattle.cc_core.proofs.Lookups.{lookup-newest, lookup-other}
use Rattle.cc_certificate_writing.specs.Certificates.{line, lines_behind, bind_line, lines_at, bind_lines}

pub lines-append : (front : List ℕ) (a b : List (List ℕ))
    → lines_behind front (a ++ b) ≡ lines_behind front a ++ lines_behind front b
lines-append front [] b = refl
lines-append front (x ∷ a) b =
    ap (λ t. line (front ++ x) ++ t) (lines-append front a b)
    ∙ sym (append_assoc (line (front ++ x)) (lines_behind front a) (lines_behind front b))

pub both_lines : (front old middle new : List ℕ) (a b : List (List ℕ)) → middle ≡ old ++ lines_behind front a
    → new ≡ middle ++ lines_behind front b → new ≡ old ++ lines_behind front (a ++ b)
both_lines front old middle new a b first second =
    second ∙ ap (λ o. o ++ lines_behind front b) first
    ∙ append_assoc old (lines_behind front a) (lines_behind front b)
    ∙ ap (λ t. old ++ t) (sym (lines-append front a b))

bind_lines-length : (names : List (List ℕ)) (g : Context) → length (bind_lines names g) ≡ length g
bind_lines-length names [] = refl
bind_lines-length names (newest ∷ older) =
    let before = bind_lines-length names older in
    omega (arith, length-append (bind_lines names older) (bind_line names (length older) newest ∷ []))

older_binds : (names : List (List ℕ)) (newest : Bind) (older : Context) (p : ℕ) → p < length older
    → take (p + 1) (bind_lines names older) ≡ take p (bind_lines names older) ++ lines_at names p (lookup older p)
    → take (p + 1) (bind_lines names (newest ∷ older))
    ≡ take p (bind_lines names (newest ∷ older)) ++ lines_at names p (lookup (newest ∷ older) p)
older_binds names newest older p low before =
    let size = bind_lines-length names older in
    let last = bind_line names (length older) newest ∷ [] in
    let front : take p (bind_lines names older ++ last) ≡ take p (bind_lines names older) = take-append-le p (bind_lines names older) last (omega arith) in
    let there : lookup (newest ∷ older) p ≡ lookup older p = lookup-other newest older p (λ e. omega (arith, e)) in
    take-append-le (p + 1) (bind_lines names older) last (omega arith) ∙ before
    ∙ sym (λ i. front i ++ lines_at names p (there i))

newest_bind : (names : List (List ℕ)) (newest : Bind) (older : Context) (p : ℕ) → p ≡ length older
    → take (p + 1) (bind_lines names (newest ∷ older))
    ≡ take p (bind_lines names (newest ∷ older)) ++ lines_at names p (lookup (newest ∷ older) p)
newest_bind names newest older p at =
    let size = bind_lines-length names older in
    let all = bind_lines-length names (newest ∷ older) in
    let last = bind_line names (length older) newest ∷ [] in
    let front : take p (bind_lines names older ++ last) ≡ bind_lines names older =
    take-append-le p (bind_lines names older) last (omega arith) ∙ take_all p (bind_lines names older) (omega arith) in
    let there : lookup (newest ∷ older) p ≡ Some newest =
    ap (lookup (newest ∷ older)) at ∙ lookup-newest newest older in
    let whole : take (p + 1) (bind_lines names older ++ last) ≡ bind_lines names older ++ last =
    take_all (p + 1) (bind_lines names older ++ last) (omega arith) in
    let named : last ≡ lines_at names p (Some newest) = ap (λ n. bind_line names n newest ∷ []) (sym at) in
    whole ∙ (λ i. bind_lines names older ++ named i) ∙ sym (λ i. front i ++ lines_at names p (there i))

-- the lines of one position more
pub first_binds : (names : List (List ℕ)) (g : Context) (p : ℕ) → p < length g
    → take (p + 1) (bind_lines names g) ≡ take p (bind_lines names g) ++ lines_at names p (lookup g p)
first_binds names [] p low = absurd (omega arith)
first_binds names (newest ∷ older) p low =
    ⊎_elim (λ below. older_binds names newest older p below (first_binds names older p below))
    (λ above. newest_bind names newest older p (omega arith)) (cases_lt p (length older))

-- what is written for them
pub more_binds : (front : List ℕ) (names : List (List ℕ)) (g : Context) (p : ℕ) (old middle new : List ℕ)
    → p < length g → middle ≡ old ++ lines_behind front (take p (bind_lines names g))
    → new ≡ middle ++ lines_behind front (lines_at names p (lookup g p))
    → new ≡ old ++ lines_behind front (take (p + 1) (bind_lines names g))
more_binds front names g p old middle new low first second =
    both_lines front old middle new (take p (bind_lines names g)) (lines_at names p (lookup g p)) first second
    ∙ ap (λ lines. old ++ lines_behind front lines) (sym (first_binds names g p low))

-- all of them
pub all_binds : (front : List ℕ) (names : List (List ℕ)) (g : Context) (p : ℕ) (old new : List ℕ) → length g ≤ p
    → new ≡ old ++ lines_behind front (take p (bind_lines names g))
    → new ≡ old ++ lines_behind front (bind_lines names g)
all_binds front names g p old new whole is =
    let size = bind_lines-length names g in
    is ∙ ap (λ lines. old ++ lines_behind front lines) (take_all p (bind_lines names g) (omega arith))
