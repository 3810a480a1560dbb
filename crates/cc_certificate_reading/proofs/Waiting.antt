-- Reading by a loop over what waits finds what is found for the whole.
use Rattle.std.proofs.Common.{◌≡◌, ℕ, List, [], ◌∷◌, ◌++◌, refl, sym, ap, ◌∙◌}
use mathlib.Core.List.{reverse}
use Rattle.std.proofs.lemmas.List.{reverse-append}
use Rattle.cc_certificate_text.specs.Reading.{Found, Got, Wrong, Reader, ◌>>=◌, Readers, Piece, PieceValue, Parts, piece_at, pieces_at}
use Rattle.cc_certificate_reading.specs.Waiting.{resumed, Leads}

-- READERS BEHIND READERS

pub bind-bind : {A B C : Type 0} (found : Found A) (g : A → List ℕ → Found B) (h : B → List ℕ → Found C)
    → ((found >>= g) >>= h) ≡ (found >>= λ value rest. g value rest >>= h)
bind-bind (Got value rest) g h = refl
bind-bind Wrong g h = refl

pub bind-alike : {A B : Type 0} (found : Found A) {g h : A → List ℕ → Found B}
    → ((value : A) (rest : List ℕ) → g value rest ≡ h value rest) → (found >>= g) ≡ (found >>= h)
bind-alike (Got value rest) alike = alike value rest
bind-alike Wrong alike = refl

pub bind-got : {A : Type 0} (found : Found A) → found ≡ (found >>= Got)
bind-got (Got value rest) = refl
bind-got Wrong = refl

-- the first piece is read first
pub first_piece : {C : Type 0} (parts : Readers) (depth : ℕ) (piece : Piece) (pieces : List Piece) (k : Parts (piece ∷ pieces) → List ℕ → Found C) (bytes : List ℕ)
    → (pieces_at parts depth (piece ∷ pieces) bytes >>= k)
    ≡ (piece_at parts depth piece bytes >>= λ value rest. pieces_at parts depth pieces rest >>= λ values behind. k (value, values) behind)
first_piece parts depth piece pieces k bytes =
    bind-bind (piece_at parts depth piece bytes) (λ value rest. pieces_at parts depth pieces rest >>= λ values behind. Got (value, values) behind) k
    ∙ bind-alike (piece_at parts depth piece bytes)
    (λ value rest. bind-bind (pieces_at parts depth pieces rest) (λ values behind. Got (value, values) behind) k)

-- and what begins with it is read behind it
pub piece_then : {B C : Type 0} (parts : Readers) (depth : ℕ) (piece : Piece) (pieces : List Piece) (k : Parts (piece ∷ pieces) → List ℕ → Found C) (bytes : List ℕ)
    (begun : PieceValue piece → List ℕ → Found B) (then : B → List ℕ → Found C)
    → ((value : PieceValue piece) (rest : List ℕ) → (pieces_at parts depth pieces rest >>= λ values behind. k (value, values) behind) ≡ (begun value rest >>= then))
    → (pieces_at parts depth (piece ∷ pieces) bytes >>= k) ≡ ((piece_at parts depth piece bytes >>= begun) >>= then)
piece_then parts depth piece pieces k bytes begun then alike =
    first_piece parts depth piece pieces k bytes
    ∙ bind-alike (piece_at parts depth piece bytes) alike
    ∙ sym (bind-bind (piece_at parts depth piece bytes) begun then)

-- THE LIST OF WHAT WAITS

-- what is put last waits innermost
pub reverse-pushed : {W : Type 0} (waiting : List W) (next : W) → reverse (waiting ++ next ∷ []) ≡ next ∷ reverse waiting
reverse-pushed waiting next = reverse-append waiting (next ∷ [])

pub resumed-wrong : {W A : Type 0} (around : W → A → Reader A) (waiting : List W) → resumed around waiting Wrong ≡ Wrong
resumed-wrong around [] = refl
resumed-wrong around (next ∷ waiting) = resumed-wrong around waiting

pub leads_nowhere : {W A : Type 0} {around : W → A → Reader A} {IsFit : W → Type 0} {waiting : List W} {found : Found A}
    → Leads around IsFit waiting found waiting found
leads_nowhere = record { stays = refl; fit = λ fit. fit }

-- the same is found where it is read otherwise
pub leads_to : {W A : Type 0} {around : W → A → Reader A} {IsFit : W → Type 0} {old now : List W} {found here next : Found A}
    → Leads around IsFit old found now here → here ≡ next → Leads around IsFit old found now next
leads_to {around = around} {now = now} leads is = record { stays = ap (resumed around now) (sym is) ∙ leads.stays; fit = leads.fit }

pub leads_on : {W A : Type 0} {around : W → A → Reader A} {IsFit : W → Type 0} {old now new : List W} {found here next : Found A}
    → Leads around IsFit old found now here → Leads around IsFit now here new next → Leads around IsFit old found new next
leads_on leads then = record { stays = then.stays ∙ leads.stays; fit = λ fit. then.fit (leads.fit fit) }

-- to what is read first, where the one waits that reads on
pub leads_in : {W A : Type 0} {around : W → A → Reader A} {IsFit : W → Type 0} {old now : List W} {found here : Found A} (next : W) (inner : Found A)
    → Leads around IsFit old found now here → here ≡ (inner >>= around next) → IsFit next
    → Leads around IsFit old found (next ∷ now) inner
leads_in {around = around} {now = now} next inner leads is fit =
    record { stays = ap (resumed around now) (sym is) ∙ leads.stays; fit = λ others. (fit, leads.fit others) }

-- where nothing is found for a part, nothing is for the whole
pub leads_wrong : {W A : Type 0} {around : W → A → Reader A} {IsFit : W → Type 0} {old now : List W} {found here : Found A}
    → Leads around IsFit old found now here → here ≡ Wrong → resumed around old found ≡ Wrong
leads_wrong {around = around} {now = now} leads is = sym leads.stays ∙ ap (resumed around now) is ∙ resumed-wrong around now
