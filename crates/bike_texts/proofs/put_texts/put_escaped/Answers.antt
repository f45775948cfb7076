use Rattle.std.proofs.Common.{sym, ◌∙◌, ◌++◌, ap, append_assoc, string_bytes, List, ℕ}
use Rattle.std.proofs.lemmas.Iterator.{YieldsList-from_chars}
use Rattle.std.proofs.lemmas.Iterator.Consumers.{YieldsList-end}
use Rattle.std.proofs.Math.Utf8.{encode, encodes}
use Rattle.bike_texts.specs.Fields.{escapes_of}
use Rattle.bike_texts.proofs.Escaping.{escaped_more, escaped_none, escaped_whole}
use Rattle.bike_texts.proofs.put_texts.put_escaped.Goals as goal

pub loop-c-init : goal.loop-c-init
loop-c-init c = sym (escaped_none (string_bytes c.push.new.self))

pub loop-c-preserved : goal.loop-c-preserved
loop-c-preserved c =
    c.in_ok-push_escaped.ensures
    ∙ (ap (λ (t : List ℕ). t ++ escapes_of (encode c.in-Some.c)) c.loop-c.invariant
    ∙ (append_assoc (string_bytes c.push.new.self) (escapes_of (encodes c.loop-c.yielded)) (escapes_of (encode c.in-Some.c))
    ∙ ap (λ (t : List ℕ). string_bytes c.push.new.self ++ t) (sym (escaped_more c.loop-c.yielded c.in-Some.c))))

pub returns : goal.returns
returns c =
    let t = YieldsList-end (YieldsList-from_chars c.args.text.now c.utf8.text cc) c.loop-c.yielded _ c.loop-c.yielded_by _ _ c.in-None.is c.next.ensures.steps in
    escaped_whole c.args.text.now c.loop-c.yielded (string_bytes c.args.out.now) (string_bytes c.push.new.self)
    (string_bytes c.loop-c.out) c.utf8.text t.0 c.in_ok-push.ensures.bytes c.loop-c.invariant
