-- What bytes that were sent and got come to.
use Rattle.std.proofs.Common.{◌≡◌, ℕ, ◌+◌, ◌≤◌, List, [], ◌++◌, take, drop, Option, Some, None, Err, refl, sym, ap, ◌∙◌, arith, append_assoc}
use Rattle.std.proofs.lemmas.List.{append-nil, take-append-drop}
use Rattle.cc_meaning_nodes.specs.Frames.{Ending}
use Rattle.cc_outside.specs.Counting.{Rose, RoseBy}
use Rattle.cc_outside.specs.Telling.{more}
use Rattle.cc_link.specs.Links.{Counts, NeverFall, Known, known_got, known_sent}
use Rattle.cc_device.specs.declared.exchange.Halt.{Halt}
use Rattle.cc_device.specs.declared.exchange.Halt.TheVariants as halts
use Rattle.cc_meaning.specs.declared.travel.LinkEnd.TheVariants as ends
use Rattle.cc_device.specs.Exchanging.{IsSent, TakesIn, Awaited}

more-more : (a b : List ℕ) (o : Option (List ℕ)) → more (a ++ b) o ≡ more b (more a o)
more-more a b None = refl
more-more a b (Some xs) = ap Some (sym (append_assoc xs a b))

more-nil : (o : Option (List ℕ)) → more [] o ≡ o
more-nil None = refl
more-nil (Some xs) = ap Some (append-nil xs)

pub got-got : (a b : List ℕ) (k : Known) → known_got (a ++ b) k ≡ known_got b (known_got a k)
got-got a b k = ap (λ (o : Option (List ℕ)). record { sent = k.sent; got = o }) (more-more a b k.got)

pub got-nil : (k : Known) → known_got [] k ≡ k
got-nil k = ap (λ (o : Option (List ℕ)). record { sent = k.sent; got = o }) (more-nil k.got)

pub sent-sent : (a b : List ℕ) (k : Known) → known_sent (a ++ b) k ≡ known_sent b (known_sent a k)
sent-sent a b k = ap (λ (o : Option (List ℕ)). record { sent = o; got = k.got }) (more-more a b k.sent)

pub sent-nil : (k : Known) → known_sent [] k ≡ k
sent-nil k = ap (λ (o : Option (List ℕ)). record { sent = o; got = k.got }) (more-nil k.sent)

-- ---- counts

pub rose_none : (n : ℕ) → RoseBy 0 n n
rose_none n = omega arith

pub rose_more : (n a b c : ℕ) → RoseBy n a b → Rose b c → RoseBy (n + 1) a c
rose_more n a b c p q = omega (arith, p, q)

pub never_fall : (a b c : Counts) → NeverFall a b → NeverFall b c → NeverFall a c
never_fall a b c p q = record {
  faults = omega (arith, p.faults, q.faults);
  stalls = omega (arith, p.stalls, q.stalls);
  waits = omega (arith, p.waits, q.waits);
  ends = omega (arith, p.ends, q.ends);
  carried = omega (arith, p.carried, q.carried);
}

pub rose_kept : (n a b c : ℕ) → RoseBy n a b → b ≤ c → RoseBy n a c
rose_kept n a b c p le = omega (arith, p, le)

pub rose_since : (a b c : ℕ) → a ≤ b → Rose b c → Rose a c
rose_since a b c le p = omega (arith, le, p)

-- ---- sending

pub sent_none : (k : Known) (bytes : List ℕ) → IsSent k bytes bytes k
sent_none k bytes = record { front = []; parts = refl; known = sym (sent-nil k) }

pub sent_more : (k mid now : Known) (bytes rest : List ℕ) (n : ℕ) → IsSent k bytes rest mid → now ≡ known_sent (take n rest) mid → IsSent k bytes (drop n rest) now
sent_more k mid now bytes rest n s e = record {
  front = s.front ++ take n rest;
  parts = append_assoc s.front (take n rest) (drop n rest) ∙ ap (λ (xs : List ℕ). s.front ++ xs) (take-append-drop n rest) ∙ s.parts;
  known = e ∙ ap (known_sent (take n rest)) s.known ∙ sym (sent-sent s.front (take n rest) k);
}

pub sent_all : (k now : Known) (bytes rest : List ℕ) → rest ≡ [] → IsSent k bytes rest now → now ≡ known_sent bytes k
sent_all k now bytes rest none s =
    let all : s.front ≡ bytes = sym (append-nil s.front) ∙ ap (λ (xs : List ℕ). s.front ++ xs) (sym none) ∙ s.parts in
    s.known ∙ ap (λ (xs : List ℕ). known_sent xs k) all

-- ---- awaiting

pub fails_by : (x : List ℕ) (patience : ℕ) (halt : Halt) (new : Ending) (old now : Counts) → TakesIn x (Err halt) new → Awaited x patience (Err halt) old now
fails_by x patience halts.Memory new old now t = tt
fails_by x patience (halts.End ends.DialFailed) new old now t = absurd t
fails_by x patience (halts.End ends.Failed) new old now t = absurd t
fails_by x patience (halts.End ends.Ended) new old now t = absurd t
fails_by x patience (halts.End (ends.Waited n)) new old now t = absurd t
fails_by x patience (halts.End (ends.BadFrame fault)) new old now t = t
fails_by x patience (halts.End (ends.Unexpected kind)) new old now t = absurd t
fails_by x patience (halts.End (ends.Unfit fault)) new old now t = absurd t
fails_by x patience (halts.End (ends.Refused status)) new old now t = absurd t

pub got_next : (held piece : List ℕ) (k mid now : Known) → mid ≡ known_got held k → now ≡ known_got piece mid → now ≡ known_got (held ++ piece) k
got_next held piece k mid now m n = n ∙ ap (known_got piece) m ∙ sym (got-got held piece k)
