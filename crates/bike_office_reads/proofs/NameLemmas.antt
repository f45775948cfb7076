-- The rows of further names, and what is read of them.
use Rattle.std.proofs.Common.{◌≡◌, ◌+◌, ◌<◌, ℕ, List, [], ◌∷◌, ◌++◌, length, take, get_or, map, filter, Bool, true, false, cond, ◌&&◌, codes, negsuc, Option, Some, None, refl, sym, ap, ap₂, subst}
use Rattle.std.proofs.Common.{◌∙◌}
use Rattle.std.specs.Prelude.{option_map}
use Rattle.std.specs.List.{AllZip}
use Rattle.std.specs.Ordering.{is_eq}
use Rattle.std.proofs.lemmas.List.{take_more}
use Rattle.std.proofs.lemmas.Map.Text.{is_eq-slice_cmp}
use Rattle.std.proofs.lemmas.Slice.Zip.{all_zipped_more}
use Rattle.sqlite_value.specs.declared.value.Value.TheVariants.{Text, Int}
use Rattle.sqlite_value.specs.Order.{Row, column}
use Rattle.sqlite_value.proofs.OrderLemmas.{value_cmp-Text}
use Rattle.sqlite_sql.specs.Term.{Term, lit, col}
use Rattle.sqlite_tied.specs.Compute.{everything}
use Rattle.bike_sql.specs.Queries.{key_test}
use Rattle.bike_sql.proofs.SelectLaws.{rows_passing}
use Rattle.bike_sql.proofs.TestLemmas.{eq_test}
use Rattle.bike_catalogue.specs.Rows.{MoreNameRow, SystemRow}
use Rattle.bike_fields.specs.Bytes.{kept_if, is_language, is_name, language_of, name_of}
use Rattle.bike_fields.specs.declared.name_kind.NameKind.{NameKind}
use Rattle.bike_fields.specs.NameKinds.{kind_text}
use Rattle.bike_operator.specs.Operator.{NameKey}
use Rattle.bike_operator.specs.Names.{part_at, is_name_of}
use Rattle.bike_book.specs.Tables.{MoreNames}
use Rattle.bike_book.specs.Rows.{system_row}
use Rattle.bike_book.specs.Stored.{stored_name}
use Rattle.bike_schema.proofs.KeyLemmas.{table_key}
use Rattle.bike_office_reads.specs.Accounts.{system_key}
use Rattle.bike_office_reads.specs.ReadRows.{named_in, owned_name, is_name_within, IsOwnedName}
use Rattle.bike_schema.proofs.ListedLemmas.{ListsIn}
use Rattle.bike_schema.proofs.WithinLaw.{within_tests, within_test, within_itself}

-- the identifier, the language and the name, where they are stored
abbrev name_columns : List Term
name_columns = col 1 2 ∷ col 1 3 ∷ col 1 4 ∷ []

pub lists_names : (kind : NameKind) (first last : List ℕ)
    → ListsIn (codes "SELECT id, language, name FROM more_names WHERE kind = ?1 AND id >= ?2 AND id <= ?3 ORDER BY kind, id, language") (Text (kind_text kind) ∷ Text first ∷ Text last ∷ [])
    (λ t. map owned_name (filter (is_name_within kind first last) t.more_names))
unfolding everything
lists_names kind first last = record {
  lists =
      λ db has. rows_passing (table_key MoreNames) (has MoreNames) name_columns owned_name (λ r. refl) (key_test 1 0 ∷ within_tests 2 1 2) (lit (Int (negsuc 0))) (is_name_within kind first last)
      (λ tree. refl, refl)
      (λ r. ap₂ (λ (a b : Bool). a && b) (eq_test (column r 1) (Text (kind_text kind)) refl) (within_test (column r 2) (Text first) (Text last) refl refl));
}

-- ---- the rows of what has a kind and an identifier

module _ (kind : NameKind) (id : List ℕ) where
  abbrev is_its_row : Row → Bool
  is_its_row = is_name_within kind id id

  is_its_name : (e : NameKey × List ℕ) → is_its_row (stored_name e) ≡ is_name_of kind id e.0
  is_its_name e =
      ap₂ (λ (x y : Bool). x && y) (ap is_eq (value_cmp-Text (part_at e.0 0) (kind_text kind)) ∙ is_eq-slice_cmp (part_at e.0 0) (kind_text kind))
      (within_itself (Text (part_at e.0 1)) (Text id) ∙ ap is_eq (value_cmp-Text (part_at e.0 1) id) ∙ is_eq-slice_cmp (part_at e.0 1) id)

  -- the rows are those of its names
  pub its_rows : (es : List (NameKey × List ℕ)) → filter is_its_row (map stored_name es) ≡ map stored_name (filter (λ e. is_name_of kind id e.0) es)
  its_rows [] = refl
  its_rows (e ∷ es) = rw (is_its_name e) (go (is_name_of kind id e.0) (its_rows es)) where
    go : (b : Bool) → filter is_its_row (map stored_name es) ≡ map stored_name (filter (λ x. is_name_of kind id x.0) es)
        → cond b (stored_name e ∷ filter is_its_row (map stored_name es)) (filter is_its_row (map stored_name es))
        ≡ map stored_name (cond b (e ∷ filter (λ x. is_name_of kind id x.0) es) (filter (λ x. is_name_of kind id x.0) es))
    go true rest = ap (λ (rows : List Row). stored_name e ∷ rows) rest
    go false rest = rest

-- ---- what is read of the rows

pub next_named : (rows : List Row) (names : List MoreNameRow) (i : ℕ) (row : Row) (x : MoreNameRow) → i < length rows → row ≡ get_or rows i row → IsOwnedName row x
    → AllZip IsOwnedName (take i rows) names
    → AllZip IsOwnedName (take (i + 1) rows) (names ++ x ∷ [])
next_named rows names i row x below is named so =
    subst (λ front. AllZip IsOwnedName front (names ++ x ∷ [])) (ap (λ r. take i rows ++ r ∷ []) is ∙ sym (take_more rows i row below)) (all_zipped_more IsOwnedName (take i rows) names row x so named)

-- what is read of the rows of names are those names
pub names_read : (es : List (NameKey × List ℕ)) (names : List MoreNameRow) → AllZip IsOwnedName (map owned_name (map stored_name es)) names → names ≡ map named_in es
names_read [] [] named = refl
names_read [] (x ∷ names) named = absurd named
names_read (e ∷ es) [] named = absurd named
names_read (e ∷ es) (x ∷ names) named = ap₂ (λ (n : MoreNameRow) (ns : List MoreNameRow). n ∷ ns) (named.0 e refl) (names_read es names named.1)

-- the system's identifier and language, of its row
pub key_found : (o : Option SystemRow) {row : Row} {x : List ℕ × List ℕ} → ((r : SystemRow) → row ≡ system_row r → x ≡ system_key r) → Some row ≡ option_map system_row o
    → Some x ≡ option_map system_key o
key_found None reads is = absurd cc
key_found (Some r) reads is = ap Some (reads r cc)

pub no_key : (o : Option SystemRow) → None ≡ option_map system_row o → None ≡ option_map system_key o
no_key None is = refl
no_key (Some r) is = absurd cc

-- ---- a name of its row

kept_is : (is_kind : Bool) (text x : List ℕ) → kept_if is_kind text ≡ Some x → x ≡ text
kept_is true text x kept = cc
kept_is false text x kept = absurd cc

pub name_of_row : (id language name : List ℕ) (row : Row) (x : MoreNameRow) → row ≡ Text id ∷ Text language ∷ Text name ∷ [] → language_of language ≡ Some x.language → name_of name ≡ Some x.name
    → IsOwnedName row x
unfolding language_of name_of
name_of_row id language name row x is spoken called e stored =
    let same = sym is ∙ stored in
    let language_is : language ≡ part_at e.0 2 = cc in
    let name_is : name ≡ e.1 = cc in
    let read = kept_is (is_language language) language x.language spoken ∙ language_is in
    let also = kept_is (is_name name) name x.name called ∙ name_is in
    λ i. record { language = read i; name = also i }
