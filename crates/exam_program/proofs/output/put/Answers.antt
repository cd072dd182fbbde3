use Rattle.std.proofs.Common.{◌≡◌, ℕ, ◌+◌, ◌++◌, List, length, take, drop, sym, ◌∙◌, ap, arith, append_assoc}
use Rattle.std.proofs.Math.Seq.{take-add}
use Rattle.std.proofs.lemmas.List.{take-append-drop}
use Rattle.std.proofs.Common.{true, length-drop}
use Rattle.exam_program.proofs.output.put.Goals as goal

-- more of a piece written after what was written of it
joined : (old mid new piece : List ℕ) (done count : ℕ) → mid ≡ old ++ take done piece → new ≡ mid ++ take count (drop done piece) → new ≡ old ++ take (done + count) piece
joined old mid new piece done count e f = f ∙ (ap (λ (xs : List ℕ). xs ++ take count (drop done piece)) e ∙ (append_assoc old (take done piece) (take count (drop done piece)) ∙ ap (λ (xs : List ℕ). old ++ xs) (sym (take-add done count piece))))

pub piece-preserved : goal.piece-preserved
piece-preserved g c =
    record {
      within = omega (arith, c.in-Ok.ensures.count, ap length c.split_at.ensures.back, length-drop c.piece.done c.args.piece.now);
      written = λ told.
          let there : g.O.Sink.tells c.piece.out ≡ true = c.piece.invariant.frame.tells ∙ told in
          joined _ _ _ _ _ _ (c.piece.invariant.written told) (c.in-Ok.ensures.written there ∙ ap (λ (xs : List ℕ). g.O.Sink.written c.piece.out ++ take c.in-Ok.count xs) c.split_at.ensures.back);
      frame = record {
        grows = omega (arith, c.piece.invariant.frame.grows, c.in-Ok.ensures.frame.grows);
        tells = c.in-Ok.ensures.frame.tells ∙ c.piece.invariant.frame.tells;
        identity = c.in-Ok.ensures.frame.identity ∙ c.piece.invariant.frame.identity;
      };
    }

pub returns-in-Err-clause-err : goal.returns-in-Err-clause-err
returns-in-Err-clause-err g c =
    record {
      part = take c.piece.done c.args.piece.now;
      rest = drop c.piece.done c.args.piece.now;
      written = λ told. c.in-Err.ensures.kept (c.piece.invariant.frame.tells ∙ told) ∙ c.piece.invariant.written told;
      whole = sym (take-append-drop c.piece.done c.args.piece.now);
      unfinished = omega (arith, length-drop c.piece.done c.args.piece.now);
    }
