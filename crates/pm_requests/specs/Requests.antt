-- what is asked of a database, ready to be answered
use Rattle.std.specs.Prelude.{◌<◌, ◌^◌, length, All}
use Rattle.pm_query.specs.declared.query.Query.{Query}
use Rattle.pm_query.specs.Bound.{IsBound}
use Rattle.pm_answers.specs.Databases.{MeetsDeclarations, IsNarrow}
use Rattle.pm_requests.specs.declared.request.Request.{Request}
use Rattle.pm_requests.specs.Checks.{HasFewReferences}

-- the query is bound; it selects few columns, and its tables have few references
pub record IsAsked (query : Query) : Type 0 where
  pub bound : IsBound query
  pub outputs : length query.outputs < 2 ^ 32
  pub references : All (λ table. HasFewReferences table.decl) query.tables

-- the query is bound and narrow, and its tables are as declared, with their references
pub record IsSound (request : Request) : Type 0 where
  pub bound : IsBound request.query
  pub narrow : IsNarrow request.query
  pub meets : MeetsDeclarations request.query request.db
