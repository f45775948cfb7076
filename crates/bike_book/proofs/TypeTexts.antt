-- The text of types as it is written, compared and read, one type after the other.
use Rattle.std.proofs.Common.{◌≡◌, ◌≢◌, ℕ, List, [], ◌∷◌, ◌++◌, Bool, true, false, cond, Option, Some, None, refl, sym, ap, ◌∙◌, append_assoc, append-nil, map, decimal}
use Rattle.std.specs.Prelude.{fold}
use Rattle.std.specs.Option.{MatchOption}
use Rattle.std.specs.Str.Pattern.{FindsTextPrefix, StripsPrefix}
use Rattle.std.specs.Borrow.{Bor}
use Rattle.std.specs.List.{join_with_byte}
use Rattle.std.specs.Str.{bytes_eq}
use Rattle.std.proofs.lemmas.List.{append_cancel_left, map-append}
use Rattle.std.proofs.lemmas.List.Sums.{fold-append}
use Rattle.std.proofs.lemmas.Option.{some_pair_parts}
use Rattle.std.proofs.lemmas.Slice.Eq.{bytes_eq-Decides}
use Rattle.bike_texts.specs.Parts.{Parts}
use Rattle.bike_texts.specs.Reading.{◌>>=◌, part_at}
use Rattle.bike_book.specs.declared.by_type.TypeCounts.{TypeCounts}
use Rattle.bike_book.specs.declared.by_type.CountedType.{CountedType}
use Rattle.bike_book.specs.ByType.{are_none, with_first, counted_text, by_type_text, counted_read, all_read}
use Rattle.bike_book.specs.TypeTexts.{parted, or_none, others_text, IsBehind}

-- ---- written

joined_more : (x y : List ℕ) (ps : Parts) → join_with_byte 59 ((x ++ 59 ∷ y) ∷ ps) ≡ x ++ 59 ∷ join_with_byte 59 (y ∷ ps)
joined_more x y [] = refl
joined_more x y (p ∷ ps) = append_assoc x (59 ∷ y) (59 ∷ join_with_byte 59 (p ∷ ps))

parted_joined : (b : ℕ) (bs : List ℕ) (ps : Parts) → fold parted (b ∷ bs) ps ≡ join_with_byte 59 ((b ∷ bs) ∷ ps)
parted_joined b bs [] = refl
parted_joined b bs (p ∷ ps) = parted_joined b (bs ++ 59 ∷ p) ps ∙ joined_more (b ∷ bs) p ps

or_none_more : (x : List ℕ) (b : ℕ) (bs : List ℕ) → or_none (x ++ b ∷ bs) ≡ x ++ b ∷ bs
or_none_more [] b bs = refl
or_none_more (y ∷ ys) b bs = refl

module _ (id rest : List ℕ) where
  -- the text of a type isn't empty
  first_parted : (ps : Parts) → fold parted (id ++ 58 ∷ rest) ps ≡ join_with_byte 59 ((id ++ 58 ∷ rest) ∷ ps)
  first_parted ps = go id where
    go : (x : List ℕ) → fold parted (x ++ 58 ∷ rest) ps ≡ join_with_byte 59 ((x ++ 58 ∷ rest) ∷ ps)
    go [] = parted_joined 58 rest ps
    go (b ∷ bs) = parted_joined b (bs ++ 58 ∷ rest) ps

  joined_some : (ps : Parts) → or_none (join_with_byte 59 ((id ++ 58 ∷ rest) ∷ ps)) ≡ join_with_byte 59 ((id ++ 58 ∷ rest) ∷ ps)
  joined_some [] = or_none_more id 58 rest
  joined_some (p ∷ ps) =
      ap or_none (append_assoc id (58 ∷ rest) (59 ∷ join_with_byte 59 (p ∷ ps))) ∙ or_none_more id 58 (rest ++ 59 ∷ join_with_byte 59 (p ∷ ps))
      ∙ sym (append_assoc id (58 ∷ rest) (59 ∷ join_with_byte 59 (p ∷ ps)))

types_written : (cs : List CountedType) → or_none (fold parted [] (map counted_text cs)) ≡ by_type_text cs
types_written [] = refl
types_written (c ∷ cs) =
    let counts = decimal c.counts.available ++ 58 ∷ decimal c.counts.disabled in
    ap or_none (first_parted c.type_id counts (map counted_text cs)) ∙ joined_some c.type_id counts (map counted_text cs)

pub all_written : (cs : List CountedType) (end text : List ℕ) → text ≡ fold parted [] (map counted_text cs) → end ≡ or_none text → end ≡ by_type_text cs
all_written cs end text is ends = ends ∙ ap or_none is ∙ types_written cs

both_written : (front back : List CountedType) → fold parted (fold parted [] (map counted_text front)) (map counted_text back) ≡ fold parted [] (map counted_text (front ++ back))
both_written front back = sym (fold-append parted [] (map counted_text front) (map counted_text back)) ∙ ap (fold parted []) (sym (map-append counted_text front back))

-- one type between others, where its counts aren't 0 and 0
pub written_without : (t : List ℕ) (n : TypeCounts) (front back : List CountedType) → are_none n ≡ true
    → or_none (fold parted (fold parted [] (map counted_text front)) (map counted_text back)) ≡ by_type_text (front ++ with_first t n back)
written_without t n front back none =
    ap or_none (both_written front back) ∙ types_written (front ++ back)
    ∙ ap (λ (b : Bool). by_type_text (front ++ cond b back (record { type_id = t; counts = n } ∷ back))) (sym none)

pub written_between : (t : List ℕ) (n : TypeCounts) (front back : List CountedType) → are_none n ≡ false
    → or_none (fold parted (parted (fold parted [] (map counted_text front)) (counted_text (record { type_id = t; counts = n }))) (map counted_text back)) ≡ by_type_text (front ++ with_first t n back)
written_between t n front back some =
    let c : CountedType = record { type_id = t; counts = n } in
    ap or_none (both_written front (c ∷ back)) ∙ types_written (front ++ c ∷ back) ∙ ap (λ (b : Bool). by_type_text (front ++ cond b back (c ∷ back))) (sym some)

-- ---- compared

pub others_joined : (c : CountedType) (cs : List CountedType) → by_type_text (c ∷ cs) ≡ counted_text c ++ others_text cs
others_joined c [] = sym (append-nil (counted_text c))
others_joined c (d ∷ cs) = ap (λ (text : List ℕ). counted_text c ++ 59 ∷ text) (others_joined d cs)

-- what stands behind the front decides
pub same_behind : (front text rest more : List ℕ) → text ≡ front ++ rest → bytes_eq text (front ++ more) ≡ bytes_eq rest more
same_behind front text rest more is = go (bytes_eq rest more) refl where
  go : (b : Bool) → bytes_eq rest more ≡ b → bytes_eq text (front ++ more) ≡ b
  go true same = (bytes_eq-Decides text (front ++ more)).1 (is ∙ ap (λ (x : List ℕ). front ++ x) ((bytes_eq-Decides rest more).0 same))
  go false other = by (bytes_eq text (front ++ more)) refl where
    by : (b : Bool) → bytes_eq text (front ++ more) ≡ b → b ≡ false
    by true same =
        let rests = append_cancel_left front rest more (sym is ∙ (bytes_eq-Decides text (front ++ more)).0 same) in
        let too : bytes_eq rest more ≡ true = (bytes_eq-Decides rest more).1 rests in
        absurd cc
    by false differs = refl

pub none_behind : (front text more : List ℕ) → ((back : List ℕ) → text ≢ front ++ back) → bytes_eq text (front ++ more) ≡ false
none_behind front text more lacks = go (bytes_eq text (front ++ more)) refl where
  go : (b : Bool) → bytes_eq text (front ++ more) ≡ b → b ≡ false
  go true same = absurd (lacks more ((bytes_eq-Decides text (front ++ more)).0 same))
  go false differs = refl

pub stripped : (front text : List ℕ) (rest : Option (Bor (List ℕ)))
    → MatchOption rest (FindsTextPrefix front text None) (λ x. StripsPrefix (FindsTextPrefix front) text x.now) → IsBehind front text rest
stripped front text None h = h
stripped front text (Some x) h = h.1.1 ∙ ap (λ (back : List ℕ). front ++ back) (sym h.2)

-- a front behind a front
pub behind_next : (front next text : List ℕ) (rest : Bor (List ℕ)) (last : Option (Bor (List ℕ))) → text ≡ front ++ rest.now → IsBehind next rest.now last → IsBehind (front ++ next) text last
behind_next front next text rest None is h =
    λ back e. h back (append_cancel_left front rest.now (next ++ back) (sym is ∙ e ∙ append_assoc front next back))
behind_next front next text rest (Some x) is h = is ∙ ap (λ (back : List ℕ). front ++ back) h ∙ sym (append_assoc front next x.now)

pub behind_none : (front next text : List ℕ) → ((back : List ℕ) → text ≢ front ++ back) → (back : List ℕ) → text ≢ (front ++ next) ++ back
behind_none front next text lacks back e = lacks (next ++ back) (e ∙ append_assoc front next back)

-- ---- read

-- what was read, and in front of it what was read before
abbrev pub with_front : List CountedType → Option (List CountedType) → Option (List CountedType)
with_front front read = read >>= λ cs. Some (front ++ cs)

regroup : (front : List CountedType) (c : CountedType) (read : Option (List CountedType)) → with_front front (read >>= λ cs. Some (c ∷ cs)) ≡ with_front (front ++ c ∷ []) read
regroup front c None = refl
regroup front c (Some cs) = ap Some (sym (append_assoc front (c ∷ []) cs))

pub one_more : (front : List CountedType) (c : CountedType) (p : List ℕ) (old new : Parts) (all : Option (List CountedType)) → part_at old ≡ Some (p, new) → counted_read p ≡ Some c
    → with_front front (all_read old) ≡ all → with_front (front ++ c ∷ []) (all_read new) ≡ all
unfolding all_read
one_more front c p [] new all h e i = absurd cc
one_more front c p (q ∷ qs) new all h e i =
    let t = some_pair_parts q p qs new h in
    let first : counted_read q ≡ Some c = ap counted_read t.0 ∙ e in
    sym (regroup front c (all_read new)) ∙ ap (λ ps. with_front front (all_read ps >>= λ cs. Some (c ∷ cs))) (sym t.1)
    ∙ ap (λ o. with_front front (o >>= λ x. all_read qs >>= λ xs. Some (x ∷ xs))) (sym first) ∙ i

pub fails_here : (front : List CountedType) (p : List ℕ) (old new : Parts) (all : Option (List CountedType)) → part_at old ≡ Some (p, new) → counted_read p ≡ None
    → with_front front (all_read old) ≡ all → all ≡ None
unfolding all_read
fails_here front p [] new all h e i = absurd cc
fails_here front p (q ∷ qs) new all h e i =
    let t = some_pair_parts q p qs new h in
    let first : counted_read q ≡ None = ap counted_read t.0 ∙ e in
    sym i ∙ ap (λ o. with_front front (o >>= λ x. all_read qs >>= λ xs. Some (x ∷ xs))) first

pub is_done : (front : List CountedType) (old : Parts) (all : Option (List CountedType)) → part_at old ≡ None → with_front front (all_read old) ≡ all → all ≡ Some front
unfolding all_read
is_done front [] all h i = sym i ∙ ap Some (append-nil front)
is_done front (q ∷ qs) all h i = absurd cc
