-- Reading a table record by record.
use Rattle.std.proofs.Common.{◌≡◌, ◌≢◌, ℕ, List, [], ◌∷◌, ◌++◌, true, false, Option, Some, None, option_map, codes, refl, sym, subst, inr}
use Rattle.csv.specs.Machine.{Read, next_record}
use Rattle.csv.specs.Reading.{Reached, ReadRecord, TookRecord, ReadsNext, NextIs, source_of, default_config, strip_bom, reader_config, reader_state}
use Rattle.csv.specs.Records.{AllText}
use Rattle.csv.specs.declared.parser.Config.{Config}
use Rattle.csv.specs.declared.parser.State.{State}
use Rattle.csv.specs.declared.parser.State.TheVariants as st
use Rattle.csv.specs.declared.reader.Reader.{Reader}
use Rattle.csv.proofs.ReadFacts.{rows-more, reached-more}
use Rattle.bike_batch.specs.Rows.{Record, header}
use Rattle.bike_batch.specs.StationTables.{BeginsWith, LacksHeader, StandsBehind, Takes, MeetsNoText}

next_is : (o : Option Read) (fields : Record) (s : State) (ys : List ℕ) → NextIs o true fields s ys → (p : Read) × (o ≡ Some p) × (fields ≡ p.0)
next_is None fields s ys h = absurd (let e : true ≡ false = h in cc)
next_is (Some p) fields s ys h = (p, refl, h.1)

next_of : (cfg : Config) (s : State) (rest : List ℕ) (k : Option (List ℕ)) (fields : Record) (s2 : State) → ReadsNext cfg s (Some rest) k true fields s2
    → (p : Read) × (next_record cfg s [] [] rest ≡ Some p) × (fields ≡ p.0)
next_of cfg s rest None fields s2 h = absurd h
next_of cfg s rest (Some ys) fields s2 h = next_is (next_record cfg s [] [] rest) fields s2 ys h

pub header_is_text : AllText header
unfolding AllText lib.Utf8.encode
header_is_text =
    ((codes "station_id", (refl, refl)), ((codes "name", (refl, refl)), ((codes "lat", (refl, refl)), ((codes "lon", (refl, refl)), ((codes "docks", (refl, refl)), tt)))))

at_start : (text : List ℕ) (s : State) → st.StartRecord ≡ s → Reached default_config st.StartRecord text [] s text
unfolding Reached
at_start text s is = (is, refl)

module _ {R : Type 0} (remaining : R → Option (List ℕ)) where
  pub starts : (input : Option (List ℕ)) (reader : Reader R) → source_of remaining reader ≡ option_map strip_bom input → reader_state reader ≡ st.StartRecord
      → StandsBehind remaining input [] reader
  starts None reader source state = tt
  starts (Some text) reader source state = (strip_bom text, source, at_start (strip_bom text) (reader_state reader) (sym state))

  pub begins : (input : Option (List ℕ)) (records : List Record) (reader : Reader R) → StandsBehind remaining input records reader → BeginsWith input records
  begins None records reader at = tt
  begins (Some text) records reader at = (reader_state reader, at.0, at.2)

  module _ (old new : Reader R) (fields : Record) (plain : reader_config old ≡ default_config) where
    pub takes : ReadRecord remaining old new true fields → Takes remaining old new fields
    takes read None records at = tt
    takes read (Some text) records at = rows-more remaining old new fields default_config st.StartRecord (strip_bom text) at.0 records plain at.1 at.2 read

    pub meets_no_text : TookRecord remaining old new fields → (AllText fields → ⊥) → MeetsNoText remaining old
    meets_no_text took lacks None records at = (fields, lacks, tt)
    meets_no_text took lacks (Some text) records at =
        let next = next_of default_config (reader_state old) at.0 _ fields (reader_state new) (rw (plain, at.1) at took) in
        let behind = reached-more default_config st.StartRecord (reader_state old) (strip_bom text) at.0 records next.0 at.2 next.1 in
        let same = subst (λ (f : Record). Reached default_config st.StartRecord (strip_bom text) (records ++ f ∷ []) next.0.1 next.0.2) (sym next.2) behind in
        (fields, lacks, (next.0.1, next.0.2, same))

  -- the first record isn't the header
  pub other_header : (old new : Reader R) (fields : Record) → Takes remaining old new fields → fields ≢ header → (input : Option (List ℕ)) → StandsBehind remaining input [] old → LacksHeader input
  other_header old new fields takes other input at = inr (fields, other, begins input (fields ∷ []) new (takes input [] at))

  pub no_text_header : (old : Reader R) → MeetsNoText remaining old → (input : Option (List ℕ)) → StandsBehind remaining input [] old → LacksHeader input
  no_text_header old meets input at =
      let it = meets input [] at in
      inr (it.0, λ is. it.1 (rw is header_is_text), it.2)
