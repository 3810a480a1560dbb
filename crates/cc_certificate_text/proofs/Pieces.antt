-- What the pieces of a construct give, one behind the other, and what is read where their texts stand.
use Rattle.std.proofs.Common.{◌≡◌, ℕ, suc, ◌^◌, ◌<◌, ◌≤◌, List, [], ◌∷◌, ◌++◌, decimal, refl, sym, ap, subst, ◌∙◌, arith}
use Rattle.cc_print.proofs.Words.{EndsWord}
use Rattle.cc_certificate_text.specs.Reading.{Found, Got, Wrong, ◌>>=◌, Kind, Value, Readers, Piece, Exact, Binder, Part, Under, PieceValue, Parts, piece_at, pieces_at, same_number_at, exact_at}
use Rattle.cc_certificate_text.proofs.Readers.{got_from_bind, got_parts, exact_at_gives, exact_at-text, same_number_at_gives, same_number_at-decimal}

module _ (Good : (kind : Kind) → ℕ → Value kind → Type 0) (Text : (kind : Kind) → ℕ → Value kind → List ℕ)
    (Ends : (kind : Kind) → Value kind → List ℕ → Type 0) where
  abbrev pub PieceGood : ℕ → (piece : Piece) → PieceValue piece → Type 0
  PieceGood depth (Exact text) value = Unit {0}
  PieceGood depth Binder value = depth < 2 ^ 32
  PieceGood depth (Part kind) value = Good kind depth value
  PieceGood depth (Under kind) value = Good kind (suc depth) value

  abbrev pub piece_text : ℕ → (piece : Piece) → PieceValue piece → List ℕ
  piece_text depth (Exact text) value = text
  piece_text depth Binder value = decimal depth
  piece_text depth (Part kind) value = Text kind depth value
  piece_text depth (Under kind) value = Text kind (suc depth) value

  abbrev pub PieceEnds : (piece : Piece) → PieceValue piece → List ℕ → Type 0
  PieceEnds (Exact text) value rest = Unit {0}
  PieceEnds Binder value rest = EndsWord rest
  PieceEnds (Part kind) value rest = Ends kind value rest
  PieceEnds (Under kind) value rest = Ends kind value rest

  abbrev pub AllGood : ℕ → (pieces : List Piece) → Parts pieces → Type 0
  AllGood depth [] values = Unit {0}
  AllGood depth (piece ∷ pieces) values = PieceGood depth piece values.0 × AllGood depth pieces values.1

  -- the texts of the pieces, and the rest
  abbrev pub pieces_text : ℕ → (pieces : List Piece) → Parts pieces → List ℕ → List ℕ
  pieces_text depth [] values rest = rest
  pieces_text depth (piece ∷ pieces) values rest =
      piece_text depth piece values.0 ++ pieces_text depth pieces values.1 rest

  -- behind each piece stands what may stand there
  abbrev pub AllEnd : ℕ → (pieces : List Piece) → Parts pieces → List ℕ → Type 0
  AllEnd depth [] values rest = Unit {0}
  AllEnd depth (piece ∷ pieces) values rest =
      PieceEnds piece values.0 (pieces_text depth pieces values.1 rest) × AllEnd depth pieces values.1 rest

  module _ (parts : Readers) where
    abbrev pub Sound : Type 0
    Sound =
        (kind : Kind) (depth : ℕ) (bytes : List ℕ) (value : Value kind) (rest : List ℕ)
        → parts kind depth bytes ≡ Got value rest → Good kind depth value × (bytes ≡ Text kind depth value ++ rest)

    abbrev pub Complete : Type 0
    Complete =
        (kind : Kind) (depth : ℕ) (value : Value kind) (rest : List ℕ) → Good kind depth value → Ends kind value rest
        → parts kind depth (Text kind depth value ++ rest) ≡ Got value rest

    piece_gives : Sound → (depth : ℕ) (piece : Piece) (bytes : List ℕ) (value : PieceValue piece) (rest : List ℕ)
        → piece_at parts depth piece bytes ≡ Got value rest
        → PieceGood depth piece value × (bytes ≡ piece_text depth piece value ++ rest)
    piece_gives sound depth (Exact text) bytes value rest h = (tt, exact_at_gives text bytes rest value h)
    piece_gives sound depth Binder bytes value rest h =
        let found = same_number_at_gives depth bytes rest value h in (omega arith, found.1)
    piece_gives sound depth (Part kind) bytes value rest h = sound kind depth bytes value rest h
    piece_gives sound depth (Under kind) bytes value rest h = sound kind (suc depth) bytes value rest h

    pub pieces_give : Sound → (depth : ℕ) (pieces : List Piece) (bytes : List ℕ) (values : Parts pieces) (rest : List ℕ)
        → pieces_at parts depth pieces bytes ≡ Got values rest
        → AllGood depth pieces values × (bytes ≡ pieces_text depth pieces values rest)
    pieces_give sound depth [] bytes values rest h = (tt, (got_parts tt values bytes rest h).1)
    pieces_give sound depth (piece ∷ pieces) bytes values rest h =
        let first = got_from_bind (piece_at parts depth piece bytes)
        (λ value r. pieces_at parts depth pieces r >>= λ more behind. Got (value, more) behind) values rest h in
        let others = got_from_bind (pieces_at parts depth pieces first.1) (λ more behind. Got (first.0, more) behind) values rest first.3 in
        let same = got_parts (first.0, others.0) values others.1 rest others.3 in
        let one = piece_gives sound depth piece bytes first.0 first.1 first.2 in
        let more = pieces_give sound depth pieces first.1 others.0 others.1 others.2 in
        subst (λ v. AllGood depth (piece ∷ pieces) v × (bytes ≡ pieces_text depth (piece ∷ pieces) v rest)) same.0 (
          (one.0, more.0),
          one.1 ∙ ap (λ z. piece_text depth piece first.0 ++ z)
              (more.1 ∙ ap (pieces_text depth pieces others.0) same.1),
        )

    piece_at-text : Complete → (depth : ℕ) (piece : Piece) (value : PieceValue piece) (rest : List ℕ)
        → PieceGood depth piece value → PieceEnds piece value rest
        → piece_at parts depth piece (piece_text depth piece value ++ rest) ≡ Got value rest
    piece_at-text complete depth (Exact text) value rest good ends = exact_at-text text rest
    piece_at-text complete depth Binder value rest good ends = same_number_at-decimal depth rest good ends
    piece_at-text complete depth (Part kind) value rest good ends = complete kind depth value rest good ends
    piece_at-text complete depth (Under kind) value rest good ends = complete kind (suc depth) value rest good ends

    pub pieces_at-text : Complete → (depth : ℕ) (pieces : List Piece) (values : Parts pieces) (rest : List ℕ)
        → AllGood depth pieces values → AllEnd depth pieces values rest
        → pieces_at parts depth pieces (pieces_text depth pieces values rest) ≡ Got values rest
    pieces_at-text complete depth [] values rest good ends = refl
    pieces_at-text complete depth (piece ∷ pieces) values rest good ends =
        rw (
          piece_at-text complete depth piece values.0 (pieces_text depth pieces values.1 rest) good.0 ends.0,
          pieces_at-text complete depth pieces values.1 rest good.1 ends.1,
        ) refl
