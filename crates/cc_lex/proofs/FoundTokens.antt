-- The token at the front of a text, from the kind that its characters are.
use Rattle.std.proofs.Common.{◌≡◌, ℕ, ◌+◌, List, ◌∷◌, take, sym, ap, ◌∙◌, Option, Some, None, option_map, Err}
use Rattle.cc_base.specs.declared.place.Place.{Place}
use Rattle.cc_lex.specs.declared.error.LexError.{LexError}
use Rattle.cc_lex.specs.declared.error.LexError.TheVariants.{Refused, NoMemory}
use Rattle.cc_lex.specs.declared.form.Form.{Form}
use Rattle.cc_lex.specs.Lexemes.{Lexeme, lexeme_of}
use Rattle.cc_lex.specs.Forms.{IsOfForm}
use Rattle.cc_lex.specs.Lexical.{byte_count, spelled_at}
use Rattle.cc_lex.specs.Cutting.{front_of, spelled_by, spelled_front, token_of, spanned_front, Finds}
use Rattle.cc_lex.proofs.LongestForms.{front-good}

token_of-found : (p : Place) (o c : ℕ) (cs : List ℕ) (form : Form) (n : ℕ) (lexeme : Option Lexeme) → front_of c cs ≡ Some (form, n) → spelled_by form (c ∷ take n cs) ≡ lexeme → token_of p o c cs ≡ option_map (λ x. (spelled_at p o (c ∷ take n cs) x, n)) lexeme
unfolding token_of
token_of-found p o c cs form n lexeme e s = ap (spelled_front p o c cs) e ∙ ap (option_map (λ x. (spelled_at p o (c ∷ take n cs) x, n))) s

pub finds-error : (p : Place) (o c : ℕ) (cs ds : List ℕ) (form : Form) (n : ℕ) (error : LexError) → front_of c cs ≡ Some (form, n) → ds ≡ c ∷ take n cs → Finds lexeme_of p (Err error) (spelled_by form ds) → Finds spanned_front p (Err error) (token_of p o c cs)
finds-error p o c cs ds form n (Refused diag) e s h = (token_of-found p o c cs form n None e (ap (spelled_by form) (sym s) ∙ h.0), h.1)
finds-error p o c cs ds form n NoMemory e s h = tt

pub finds-token : (p : Place) (o c : ℕ) (cs ds : List ℕ) (form : Form) (n end : ℕ) (lexeme : Lexeme) → front_of c cs ≡ Some (form, n) → ds ≡ c ∷ take n cs → end ≡ o + byte_count (c ∷ take n cs) → spelled_by form ds ≡ Some lexeme → token_of p o c cs ≡ Some (record { placed = record { lexeme = lexeme; at = p }; from = o; to = end }, n)
finds-token p o c cs ds form n end lexeme e s size h =
    rw size (token_of-found p o c cs form n (Some lexeme) e (ap (spelled_by form) (sym s) ∙ h))

pub front-form : (c : ℕ) (cs ds : List ℕ) (form : Form) (n : ℕ) → front_of c cs ≡ Some (form, n) → ds ≡ c ∷ take n cs → IsOfForm form ds
front-form c cs ds form n e s = rw s (front-good c cs (form, n) e).1
