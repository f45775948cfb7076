-- A request line is read exactly.
use Rattle.std.proofs.Common.{◌≡◌, ℕ, ◌≤◌, List, [], ◌∷◌, ◌++◌, true, not, eqb, Option, Some, None, refl, sym, ap, ap₂, ◌∙◌, subst, arith, decimal, codes, length, Result, Ok, Err}
use Rattle.std.specs.Prelude.{IfSome, IfOk, IfErr, IsSome}
use Rattle.std.specs.declared.alloc.AllocError.{AllocError}
use Rattle.std.specs.Str.{IsUtf8}
use Rattle.std.specs.List.{slice_split, join_with_byte, list_all}
use Rattle.std.proofs.lemmas.Option.{option_and_then_some, cond_some, same_Some}
use Rattle.std.proofs.lemmas.List.Splits.{join_with_byte-slice_split}
use Rattle.bike_fixed.specs.Whole.{number_of, last_moment}
use Rattle.bike_fixed.proofs.Numbers.{number_sound, number_full}
use Rattle.bike_fields.specs.Bytes.{is_key, key_of, is_key_byte, is_ident, is_ident_byte, has_length}
use Rattle.bike_fields.specs.Caller.{IsCaller, caller_text, caller_of, caller_meant}
use Rattle.bike_fields.specs.declared.caller.CallerName.{CallerName}
use Rattle.bike_fields.specs.declared.caller.Caller.{Caller}
use Rattle.bike_fields.specs.declared.caller.Caller.TheVariants.{Office, Staff, Rider, Dock, Crew, Import}
use Rattle.bike_fields.proofs.Callers.{caller_sound, caller_full}
use Rattle.bike_fields.specs.Reads.{IsReadAs}
use Rattle.bike_texts.specs.Parts.{Parts}
use Rattle.bike_texts.specs.Fields.{HasNoTab}
use Rattle.bike_texts.specs.Reading.{◌>>=◌, field_at}
use Rattle.bike_commands.specs.declared.request.Request.{Request}
use Rattle.bike_commands.specs.declared.command.Command.{Command}
use Rattle.bike_commands.specs.Commands.{word_of, fields_of}
use Rattle.bike_requests.specs.Spelling.{SpellsRequest}
use Rattle.bike_requests.specs.Readers.{command_at}
use Rattle.bike_commands.specs.Requests.{IsRequest, IsLine, line_length}
use Rattle.bike_requests.specs.RequestReaders.{request_at}
use Rattle.bike_texts.proofs.Splitting.{is_tab}
use Rattle.bike_texts.proofs.Absent.{set_lacks, all_append}
use Rattle.bike_texts.proofs.TabFree.{AreRead, AreTabFree, decimal_no_tab, split_join, parts_no_tab}
use Rattle.bike_fields.proofs.Lengths.{both_hold}
use Rattle.bike_requests.proofs.CommandLaws.{IsReadOf, parts_sound, parts_full, word_no_tab}

-- ---- no part of a line has a TAB

append_no_tab : (xs ys : List ℕ) → HasNoTab xs → HasNoTab ys → HasNoTab (xs ++ ys)
append_no_tab xs ys a b = all_append (λ x. not (eqb x 9)) xs ys a b

key_no_tab : (key : List ℕ) → is_key key ≡ true → HasNoTab key
key_no_tab key good = set_lacks is_key_byte 9 refl key (both_hold (has_length 1 64 key) (list_all is_key_byte key) good).1

ident_no_tab : (name : List ℕ) → is_ident name ≡ true → HasNoTab name
ident_no_tab name good = set_lacks is_ident_byte 9 refl name (both_hold (has_length 1 36 name) (list_all is_ident_byte name) good).1

caller_no_tab : (c : Caller) → IsCaller c → HasNoTab (caller_text c)
caller_no_tab Office good = refl
caller_no_tab (Staff name) good = append_no_tab (codes "office") (58 ∷ name) refl (ident_no_tab name good)
caller_no_tab (Rider n) good = append_no_tab (codes "rider") (58 ∷ decimal n) refl (decimal_no_tab n (omega (arith, good.1)))
caller_no_tab (Dock station) good = append_no_tab (codes "dock") (58 ∷ station) refl (ident_no_tab station good)
caller_no_tab (Crew n) good = append_no_tab (codes "crew") (58 ∷ decimal n) refl (decimal_no_tab n (omega (arith, good.1)))
caller_no_tab (Import name) good = append_no_tab (codes "import") (58 ∷ name) refl (ident_no_tab name good)

-- ---- the parts

key_sound : (text key : List ℕ) → key_of text ≡ Some key → (text ≡ key) × (is_key key ≡ true)
unfolding key_of
key_sound text key e = let s = cond_some (is_key text) text key e in (s.1, subst (λ (t : List ℕ). is_key t ≡ true) s.1 s.0)

key_full : (key : List ℕ) → is_key key ≡ true → key_of key ≡ Some key
unfolding key_of
key_full key good = rw good refl

-- a field that was read stood first
pub record IsTaken {A : Type 0} (read : List ℕ → Option A) (ps : Parts) (x : A × Parts) : Type 0 where
  pub part : List ℕ
  pub first : ps ≡ part ∷ x.1
  pub value : read part ≡ Some x.0

taken : {A : Type 0} (read : List ℕ → Option A) (ps : Parts) (x : A × Parts) → field_at read ps ≡ Some x → IsTaken read ps x
taken read [] x e = absurd cc
taken {A = A} read (p ∷ ps) x e = option_and_then_some (λ a. Some (a, ps)) (read p) x e (λ a r s.
    let same : (a, ps) ≡ x = same_Some (a, ps) x s in
    record { part = p; first = ap (λ (y : A × Parts). p ∷ y.1) same; value = r ∙ ap (λ (y : A × Parts). Some y.0) same })

-- a caller that was read keeps its bounds, with memory of its own too
pub kept_good : (ps rest : Parts) (named : CallerName) (r : Result Caller AllocError) → field_at caller_of ps ≡ Some (caller_meant named, rest)
    → IfOk r (λ c. c ≡ caller_meant named) → IfOk r IsCaller
kept_good ps rest named (Ok c) read is =
    let first = taken caller_of ps (caller_meant named, rest) read in
    subst IsCaller (sym is) (caller_sound first.part (caller_meant named) first.value).0
kept_good ps rest named (Err refused) read is = tt

-- the parts spell moment, caller, key and command
pub record IsRequestOf (ps : Parts) (t : ℕ) (q : Request) : Type 0 where
  pub rest : Parts
  pub split : ps ≡ decimal t ∷ caller_text q.caller ∷ q.key ∷ rest
  pub command : IsReadOf rest q.command
  pub moment : t ≤ last_moment
  pub caller : IsCaller q.caller
  pub key : is_key q.key ≡ true

abbrev made : ℕ × Parts → Caller × Parts → List ℕ × Parts → Command → ℕ × Request
made m c k command = (m.0, record { caller = c.0; key = k.0; command = command })

pub request_sound : (ps : Parts) (x : ℕ × Request) → request_at ps ≡ Some x → IsRequestOf ps x.0 x.1
unfolding request_at
request_sound ps x e =
    option_and_then_some (λ m. field_at caller_of m.1 >>= λ c. field_at key_of c.1 >>= λ k. command_at k.1 >>= λ command. Some (made m c k command)) (field_at (number_of 0 last_moment) ps) x e
    (λ m em e.
    option_and_then_some (λ c. field_at key_of c.1 >>= λ k. command_at k.1 >>= λ command. Some (made m c k command)) (field_at caller_of m.1) x e (λ c ec e.
    option_and_then_some (λ k. command_at k.1 >>= λ command. Some (made m c k command)) (field_at key_of c.1) x e (λ k ek e.
    option_and_then_some (λ command. Some (made m c k command)) (command_at k.1) x e (λ command es e.
    let moment = taken (number_of 0 last_moment) ps m em in
    let caller = taken caller_of m.1 c ec in
    let key = taken key_of c.1 k ek in
    let number = number_sound 0 last_moment moment.part m.0 moment.value in
    let sent = caller_sound caller.part c.0 caller.value in
    let named = key_sound key.part k.0 key.value in
    let split : ps ≡ decimal m.0 ∷ caller_text c.0 ∷ k.0 ∷ k.1 =
    moment.first ∙ ap₂ (λ (p : List ℕ) (qs : Parts). p ∷ qs) number.spelled (caller.first ∙ ap₂ (λ (p : List ℕ) (qs : Parts). p ∷ qs) sent.1 (key.first ∙ ap (λ (p : List ℕ). p ∷ k.1) named.0)) in
    subst (λ (y : ℕ × Request). IsRequestOf ps y.0 y.1) (same_Some (made m c k command) x e) (record {
      rest = k.1;
      split = split;
      command = parts_sound k.1 command es;
      moment = number.le_high;
      caller = sent.0;
      key = named.1;
    })))))

pub request_full : (ps : Parts) (t : ℕ) (q : Request) → IsRequestOf ps t q → request_at ps ≡ Some (t, q)
unfolding request_at
request_full ps t q h =
    let moment : number_of 0 last_moment (decimal t) ≡ Some t = number_full 0 last_moment (decimal t) t (omega arith) (record { low_le = omega arith; le_high = h.moment; spelled = refl }) in
    let caller = caller_full q.caller h.caller in
    let key = key_full q.key h.key in
    let command = parts_full h.rest q.command h.command in
    rw (h.split, moment, caller, key, command) refl

-- ---- the line

both_laws : (line : List ℕ) (o : Option (ℕ × Request)) → length line ≤ line_length → IsUtf8 line → o ≡ request_at (slice_split is_tab line)
    → IfSome o (λ r. IsLine line r.0 r.1 × IsRequest r.1 × (r.0 ≤ last_moment)) × ((t : ℕ) (q : Request) → t ≤ last_moment → IsRequest q → IsLine line t q → o ≡ Some (t, q))
both_laws line o short utf8 e = (found o e, only) where
  found : (o : Option (ℕ × Request)) → o ≡ request_at (slice_split is_tab line) → IfSome o (λ r. IsLine line r.0 r.1 × IsRequest r.1 × (r.0 ≤ last_moment))
  found None e = tt
  found (Some r) e =
      let h = request_sound (slice_split is_tab line) r (sym e) in
      let joined : line ≡ join_with_byte 9 (decimal r.0 ∷ caller_text r.1.caller ∷ r.1.key ∷ word_of r.1.command ∷ h.command.parts) =
      sym (join_with_byte-slice_split 9 line) ∙ ap (join_with_byte 9) (h.split ∙ ap (λ (ps : Parts). decimal r.0 ∷ caller_text r.1.caller ∷ r.1.key ∷ ps) h.command.split) in (
        record {
          short = short;
          utf8 = utf8;
          command = join_with_byte 9 (word_of r.1.command ∷ h.command.parts);
          spelled = record { parts = h.command.parts; each = h.command.read.each; joined = refl };
          joined = joined;
        },
        record { caller = h.caller; key = h.key; command = h.command.read.good },
        h.moment,
      )

  only : (t : ℕ) (q : Request) → t ≤ last_moment → IsRequest q → IsLine line t q → o ≡ Some (t, q)
  only t q moment good h =
      let parts = h.spelled.parts in
      let read : AreRead (fields_of q.command) parts = record { each = h.spelled.each; good = good.command } in
      let joined : line ≡ join_with_byte 9 (decimal t ∷ caller_text q.caller ∷ q.key ∷ word_of q.command ∷ parts) =
      h.joined ∙ ap (λ (c : List ℕ). decimal t ++ 9 ∷ (caller_text q.caller ++ 9 ∷ (q.key ++ 9 ∷ c))) h.spelled.joined in
      let free : AreTabFree (caller_text q.caller ∷ q.key ∷ word_of q.command ∷ parts) =
      (caller_no_tab q.caller good.caller, (key_no_tab q.key good.key, (word_no_tab q.command, parts_no_tab (fields_of q.command) parts read))) in
      let split : slice_split is_tab line ≡ decimal t ∷ caller_text q.caller ∷ q.key ∷ word_of q.command ∷ parts =
      ap (slice_split is_tab) joined ∙ split_join (decimal t) (caller_text q.caller ∷ q.key ∷ word_of q.command ∷ parts) (decimal_no_tab t (omega (arith, moment))) free in
      e ∙ request_full (slice_split is_tab line) t q (record {
        rest = word_of q.command ∷ parts;
        split = split;
        command = record { parts = parts; split = refl; read = read };
        moment = moment;
        caller = good.caller;
        key = good.key;
      })

pub line_found : (line : List ℕ) (r : Result (Option (ℕ × Request)) AllocError) → length line ≤ line_length → IsUtf8 line → IsReadAs (request_at (slice_split is_tab line)) r
    → IfOk r (λ o. IfSome o (λ r. IsLine line r.0 r.1 × IsRequest r.1 × (r.0 ≤ last_moment)))
line_found line (Ok o) short utf8 e = (both_laws line o short utf8 e).0
line_found line (Err x) short utf8 e = tt

pub line_only : (line : List ℕ) (r : Result (Option (ℕ × Request)) AllocError) → length line ≤ line_length → IsUtf8 line → IsReadAs (request_at (slice_split is_tab line)) r
    → IfOk r (λ o. (t : ℕ) (q : Request) → t ≤ last_moment → IsRequest q → IsLine line t q → o ≡ Some (t, q))
line_only line (Ok o) short utf8 e = (both_laws line o short utf8 e).1
line_only line (Err x) short utf8 e = tt

pub line_spared : (line : List ℕ) (r : Result (Option (ℕ × Request)) AllocError) → length line ≤ line_length → IsUtf8 line → IsReadAs (request_at (slice_split is_tab line)) r
    → IfErr r (λ _. SpellsRequest line)
line_spared line (Ok o) short utf8 e = tt
line_spared line (Err x) short utf8 e = spells (request_at (slice_split is_tab line)) refl e where
  spells : (o : Option (ℕ × Request)) → request_at (slice_split is_tab line) ≡ o → IsSome o → SpellsRequest line
  spells None is some = absurd cc
  spells (Some r) is some = let s = (both_laws line (Some r) short utf8 (sym is)).0 in record { moment = r.0; request = r.1; spelled = s.0; good = s.1; moment_good = s.2 }
