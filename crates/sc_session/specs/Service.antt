-- What is promised of a service: what its requests ask of a history, and how it replies to them by that history.
use Rattle.std.specs.Prelude.{ℕ, Bool, List, Option}
use Rattle.sc_http.specs.declared.request.Request.{Request}
use Rattle.sc_http.specs.declared.reply.Reply.{Reply}
use Rattle.sc_http.specs.declared.fault.HttpEnd.{HttpEnd}
use Rattle.sc_session.specs.declared.ask.Ask.{Ask}

-- a service over a history of entries, by loads and by jobs, which are what requests are read as
pub record Service (E L J : Type 0) : Type 1 where
  -- the number of who made an entry
  pub by : E → ℕ
  -- the entry of a load that is made by a number
  pub entry : ℕ → L → E
  -- the history takes the load
  pub takes : List E → L → Type 0
  -- the request is read as the job
  pub reads : Request → J → Type 0
  -- what a job asks of the history
  pub asks : J → Ask L
  -- the reply to a request that was read as the job, by the history, and whether it was a load that was accepted
  pub replies : Request → J → List E → Bool → Reply → Type 0
  -- the reply to an end of the requests at a revision, where there is one
  pub refusal : HttpEnd → ℕ → Option Reply
