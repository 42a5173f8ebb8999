-- What forcing a frame says of the changes in it.
use Rattle.std.proofs.Common.{◌≡◌, ℕ, ◌+◌, List, [], ◌∷◌, ◌++◌, length, sym, subst}
use Rattle.std.specs.Prelude.{Result, OnOk}
use Rattle.disk_core.specs.declared.disk.Disk.{Ghosts}
use Rattle.disk_core.specs.Moments.{LeavesNow, LeavesOnly}
use Rattle.lane_format.specs.Crash.{WithOrWithout}
use Rattle.lane_format.specs.Lane.{body_of, frame_text}
use Rattle.lane_format.specs.Plans.{Carries, append_calls}
use Rattle.lane_format.specs.Writer.{Holds, IsSettled, KeepsFault, disk_of, lane_of, stage_of}
use Rattle.lane_format.specs.declared.writer.LaneFault.{LaneFault}
use Rattle.lane_format.specs.declared.writer.LaneWriter.{LaneWriter}
use Rattle.lane_format.specs.declared.writer.Stage.TheVariants.{Open}
use Rattle.txn_rows.specs.Forces.{Forces}

module _ {D : Type 0} (d : Ghosts D) (frame body : List ℕ) (old new : LaneWriter D) (result : Result (Unit {0}) LaneFault) where
  pub forces : length frame ≡ 5 + length body → body_of frame ≡ body
      → OnOk result ((generation : ℕ) (bodies : List (List ℕ)) → Holds d old generation bodies → Holds d new generation (bodies ++ body_of frame ∷ []))
      → OnOk result ((generation gate : ℕ) → stage_of old ≡ Open generation gate → stage_of new ≡ Open generation (gate + length frame))
      → ((generation gate : ℕ) → stage_of old ≡ Open generation gate → Carries d old new (append_calls gate (frame_text (body_of frame))) result) → KeepsFault d old new result
      → ((generation : ℕ) (bodies : List (List ℕ)) → IsSettled d old generation bodies → LeavesOnly d (disk_of old) (disk_of new) (WithOrWithout generation (lane_of old) bodies (body_of frame)))
      → ((generation : ℕ) (bodies : List (List ℕ)) → IsSettled d old generation bodies → LeavesNow d (disk_of new) (WithOrWithout generation (lane_of old) bodies (body_of frame)))
      → OnOk result ((generation : ℕ) (bodies : List (List ℕ)) → IsSettled d old generation bodies → IsSettled d new generation (bodies ++ body_of frame ∷ [])) → Forces d body old new result
  forces len is appended stage calls fault moments crash durable =
      subst (λ (b : List ℕ). Forces d b old new result) is
      (record {
        appended = appended;
        stage = subst (λ n. OnOk result ((generation gate : ℕ) → stage_of old ≡ Open generation gate → stage_of new ≡ Open generation (gate + n))) len_of_body stage;
        calls = calls;
        fault = fault;
        moments = moments;
        crash = crash;
        durable = durable;
      })
    where
      len_of_body : length frame ≡ 5 + length (body_of frame)
      len_of_body = subst (λ (b : List ℕ). length frame ≡ 5 + length b) (sym is) len
