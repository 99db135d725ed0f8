-- What a call of the clone comes to, with the opening before it or without.
use Rattle.std.proofs.Common.{◌≡◌, ℕ, Bool, true, false, List, [], ◌++◌, Result, Ok, Err, refl, sym, ap, ◌∙◌}
use Rattle.cc_meaning.specs.declared.image.RunImage.{RunImage}
use Rattle.cc_meaning.specs.declared.image.BackImage.{BackImage}
use Rattle.cc_meaning.specs.declared.program.Program.{Program}
use Rattle.cc_meaning.specs.declared.travel.LinkEnd.{LinkEnd}
use Rattle.cc_meaning.specs.declared.travel.LinkEnd.TheVariants as ends
use Rattle.cc_link.specs.Links.{Known, Counts, NeverFall, known_sent, known_got}
use Rattle.cc_link.specs.Honest.{LinkOwes}
use Rattle.cc_device.specs.declared.exchange.Halt.{Halt}
use Rattle.cc_device.specs.declared.exchange.Halt.TheVariants as halts
use Rattle.cc_device.specs.Judging.{judge_back, Exchanges, Opens, not_dialed, not_begun, dialed, run_bytes}
use Rattle.cc_device.specs.Travelling.{called_alone, opened_first, not_reached, not_opened, not_called, not_called_first, Reaches}
use Rattle.cc_device.proofs.Exchanges.{got-nil, sent-nil, got-got, sent-sent}
use Rattle.cc_device.proofs.Judged.{ends_since}

-- what is sent later doesn't change what was got
swap : (a b : List ℕ) (k : Known) → known_sent a (known_got b k) ≡ known_got b (known_sent a k)
swap a b k = refl

both : (a b c d : List ℕ) (k : Known) → known_got d (known_sent c (known_got b (known_sent a k))) ≡ known_got (b ++ d) (known_sent (a ++ c) k)
both a b c d k =
    ap (λ (j : Known). known_got d (known_got b j)) (sym (sent-sent a c k)) ∙ sym (got-got b d (known_sent (a ++ c) k))

as_end : LinkEnd → Result (Unit {0}) Halt
as_end e = Err (halts.End e)

end_is : (e : LinkEnd) → as_end e ≡ as_end ends.DialFailed → e ≡ ends.DialFailed
unfolding as_end
end_is e h = cc

module _ (p : Program) (hello : List ℕ) (patience : ℕ) (image : RunImage) (k : Known) (old : Counts) (prompt : Type 0) where
  pub halts_before : (new : Counts) (is_open : Bool) → Reaches p hello patience image is_open k old prompt (Err halts.Memory) k new
  halts_before new is_open = record { sent = []; got = []; known = sym (got-nil (known_sent [] k) ∙ sent-nil k); came = tt }

  pub reached_alone : (r : Result BackImage Halt) (k' : Known) (new : Counts) → Exchanges (judge_back p image) (run_bytes image) patience k old prompt r k' new → Reaches p hello patience image true k old prompt r k' new
  reached_alone (Ok back) k' new x = record { sent = x.sent; got = x.got; known = x.known; came = called_alone x.came }
  reached_alone (Err halts.Memory) k' new x = record { sent = x.sent; got = x.got; known = x.known; came = tt }
  reached_alone (Err (halts.End e)) k' new x = record { sent = x.sent; got = x.got; known = x.known; came = not_called x.came }

  pub unopened : (halt : Halt) (k' : Known) (new : Counts) → Opens hello patience k old prompt (Err halt) k' new → Reaches p hello patience image false k old prompt (Err halt) k' new
  unfolding as_end
  unopened halts.Memory k' new (not_dialed same is rose up) = absurd cc
  unopened halts.Memory k' new (not_begun same is) = record { sent = []; got = []; known = same ∙ sym (got-nil (known_sent [] k) ∙ sent-nil k); came = tt }
  unopened halts.Memory k' new (dialed x) = record { sent = x.sent; got = x.got; known = x.known; came = tt }
  unopened (halts.End e) k' new (not_dialed same is rose up) = record { sent = []; got = []; known = same ∙ sym (got-nil (known_sent [] k) ∙ sent-nil k); came = not_reached (end_is e is) refl refl rose up }
  unopened (halts.End e) k' new (not_begun same is) = absurd cc
  unopened (halts.End e) k' new (dialed x) = record { sent = x.sent; got = x.got; known = x.known; came = not_opened x.came }

  pub reached_behind : (mid_k : Known) (mid : Counts) (still : Type 0) (r : Result BackImage Halt) (k' : Known) (new : Counts) → Opens hello patience k old prompt (Ok tt) mid_k mid → NeverFall old mid → (prompt → still) →
      Exchanges (judge_back p image) (run_bytes image) patience mid_k mid still r k' new → Reaches p hello patience image false k old prompt r k' new
  reached_behind mid_k mid still r k' new (not_dialed same is rose up) n stays x = absurd cc
  reached_behind mid_k mid still r k' new (not_begun same is) n stays x = absurd cc
  reached_behind mid_k mid still (Ok back) k' new (dialed y) n stays x = record {
    sent = y.sent ++ x.sent;
    got = y.got ++ x.got;
    known = x.known ∙ ap (λ (j : Known). known_got x.got (known_sent x.sent j)) y.known ∙ both y.sent y.got x.sent x.got k;
    came = opened_first y.came.frame y.got x.sent x.got (ap (λ (s : List ℕ). s ++ x.sent) y.came.all) refl y.came.whole y.came.judged x.came;
  }
  reached_behind mid_k mid still (Err halts.Memory) k' new (dialed y) n stays x = record {
    sent = y.sent ++ x.sent;
    got = y.got ++ x.got;
    known = x.known ∙ ap (λ (j : Known). known_got x.got (known_sent x.sent j)) y.known ∙ both y.sent y.got x.sent x.got k;
    came = tt;
  }
  reached_behind mid_k mid still (Err (halts.End e)) k' new (dialed y) n stays x = record {
    sent = y.sent ++ x.sent;
    got = y.got ++ x.got;
    known = x.known ∙ ap (λ (j : Known). known_got x.got (known_sent x.sent j)) y.known ∙ both y.sent y.got x.sent x.got k;
    came = not_called_first y.came.frame y.got x.sent x.got (ap (λ (s : List ℕ). s ++ x.sent) y.came.all) refl y.came.whole y.came.judged
        (ends_since (judge_back p image) (run_bytes image) patience x.sent x.got e old mid new prompt still (LinkOwes k') n stays x.came);
  }
