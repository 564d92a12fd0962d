-- which queries are on the state, and permissions and tables as JSON values
pub mod Views
