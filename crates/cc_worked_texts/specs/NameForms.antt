-- What is a name, by example: each word of the language is none, and what a name begins with and goes on with.
use Rattle.std.specs.Prelude.{◌≡◌, ℕ, Bool, true, false, codes, List, [], ◌∷◌}
use Rattle.cc_base.specs.Names.{spells_name}

-- whether the characters are a name
abbrev pub Spells : List ℕ → Bool → Type 0
Spells characters does = spells_name characters ≡ does

-- Each word of the language is no name.
pub record WordsAreNoNames : Type 0 where
  pub word_import : Spells (codes "import") false
  pub word_def : Spells (codes "def") false
  pub word_rec : Spells (codes "rec") false
  pub word_fun : Spells (codes "fun") false
  pub word_val : Spells (codes "val") false
  pub word_if : Spells (codes "if") false
  pub word_then : Spells (codes "then") false
  pub word_else : Spells (codes "else") false
  pub word_box : Spells (codes "box") false
  pub word_unbox : Spells (codes "unbox") false
  pub boundary : Spells (codes "boundary") false
  pub word_exit : Spells (codes "exit") false
  pub word_repeat : Spells (codes "repeat") false
  pub true_value : Spells (codes "true") false
  pub false_value : Spells (codes "false") false
  pub word_unit : Spells (codes "unit") false
  pub word_cap : Spells (codes "cap") false
  pub unit_shape : Spells (codes "Unit") false
  pub truth_shape : Spells (codes "Bool") false
  pub integer_shape : Spells (codes "Int") false
  pub text_shape : Spells (codes "Str") false
  pub any_shape : Spells (codes "Any") false
  pub console_shape : Spells (codes "Console") false
  pub file_shape : Spells (codes "File") false
  pub counter_shape : Spells (codes "Counter") false
  pub exit_shape : Spells (codes "Exit") false
  pub box_shape : Spells (codes "Box") false

-- A name begins with a letter, and goes on with letters, marks, digits and low lines.
pub record NameCharacters : Type 0 where
  pub letter : Spells (codes "x") true
  pub word_with_more : Spells (codes "imports") true
  pub front_of_a_word : Spells (codes "impor") true
  pub word_in_other_letters : Spells (codes "Import") true
  pub nothing : Spells (codes "") false
  pub digit_behind : Spells (codes "x1") true
  pub digit_in_front : Spells (codes "1x") false
  pub low_line_behind : Spells (codes "x_y") true
  pub low_line_in_front : Spells (codes "_x") false
  pub blank : Spells (codes "x y") false
  pub full_stop : Spells (codes "x.y") false
  pub letter_beyond_ascii : Spells (codes "é") true
  pub mark_behind : Spells (101 ∷ 769 ∷ []) true
  pub mark_in_front : Spells (769 ∷ 101 ∷ []) false
